use Rattle.std.proofs.Common.{length}
use Rattle.world_rounds.proofs.StepsAt.{HasCommitted}
use Rattle.world_rounds.proofs.world.World.commit_list.Given as goal

abbrev pub invariant-steps : goal.invariant-steps
invariant-steps g l = HasCommitted g.D.Disk.view l.table l.who l.fn.steps.items (length l.yielded) l.fn.self l.self
