use Rattle.run_replay.proofs.DeliverLemmas.{HasDelivered}
use Rattle.run_replay.proofs.replay.Replay.deliver.Given as goal

abbrev pub invariant-numbers : goal.invariant-numbers
invariant-numbers l = HasDelivered l.first l.number l.fn.self l.self
