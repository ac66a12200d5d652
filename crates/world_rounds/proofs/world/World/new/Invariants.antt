use Rattle.std.proofs.Common.{length}
use Rattle.world_rounds.proofs.Starting.{HaveStarted}
use Rattle.world_rounds.proofs.world.World.new.Given as goal

abbrev pub invariant-disks : goal.invariant-disks
invariant-disks g l = HaveStarted g.D.Disk.view l.table l.members (length l.yielded) l.started.items
