use Rattle.world_rounds.proofs.RoundsOfAll.{HasCommittedTo}
use Rattle.world_rounds.proofs.world.World.commit_all.Given as goal

abbrev pub invariant-whos : goal.invariant-whos
invariant-whos g l = HasCommittedTo g.D.Disk.view l.table l.who l.fn.self l.self
