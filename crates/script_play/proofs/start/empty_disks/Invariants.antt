use Rattle.std.proofs.Common.{◌≡◌, length}
use Rattle.std.specs.List.{Contains}
use Rattle.disk_model.specs.declared.mem_disk.MemDisk.{MemDisk}
use Rattle.script_play.specs.Play.{IsFreshMemDisk}
use Rattle.script_play.proofs.start.empty_disks.Given as goal

abbrev pub invariant-disks : goal.invariant-disks
invariant-disks l = (length l.disks.items ≡ l._number) × ((disk : MemDisk) → Contains l.disks.items disk → IsFreshMemDisk disk)
