use Rattle.world_rounds.proofs.ClearLemmas.{HasRestartedTo}
use Rattle.world_rounds.proofs.world.World.restart_all.Given as goal

abbrev pub invariant-whos : goal.invariant-whos
invariant-whos g l = HasRestartedTo g.D.Disk.view l.table l.who l.fn.self l.self
