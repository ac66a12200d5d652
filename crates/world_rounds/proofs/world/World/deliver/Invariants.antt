use Rattle.world_rounds.proofs.Delivery.{HasDelivered}
use Rattle.world_rounds.proofs.world.World.deliver.Given as goal

abbrev pub invariant-numbers : goal.invariant-numbers
invariant-numbers g l = HasDelivered g.D.Disk.view l.first l.number l.fn.self l.self
