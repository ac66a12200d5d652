use Rattle.disk_model.specs.MemDisk.{view_of}
use Rattle.rounds_tests.proofs.Played.{AreFresh}
use Rattle.rounds_tests.proofs.worlds.disks.Given as goal

abbrev pub invariant-disks : goal.invariant-disks
invariant-disks l = AreFresh view_of l._disk l.disks.items
