use Rattle.std.proofs.Common.{◌≡◌, drop}
use Rattle.script_semantics.specs.Situation.{is_cut}
use Rattle.run_replay.proofs.deliver.is_lost.Given as goal

abbrev pub invariant-pairs : goal.invariant-pairs
invariant-pairs l = is_cut l.from l.to l.cuts ≡ is_cut l.from l.to (drop l.pair-index l.cuts)
