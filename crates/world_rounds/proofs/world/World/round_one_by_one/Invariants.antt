use Rattle.world_rounds.proofs.InOrder.{HasPassedTo}
use Rattle.world_rounds.proofs.world.World.round_one_by_one.Given as goal

abbrev pub invariant-whos : goal.invariant-whos
invariant-whos g l = HasPassedTo g.D.Disk.view l.table l.at.0 l.who l.fn.self l.self
