-- A disk that holds a disk in memory.
use Rattle.std.specs.Prelude.{⊤}
use Rattle.disk_model.specs.MemDisk.{counts_by, left_by, left_since_by, moment_of, seen_of, told_of}
use Rattle.disk_model.specs.View.{DiskView}
use Rattle.disk_model.specs.declared.mem_disk.MemDisk.{MemDisk}

-- it says of itself what the disk that it holds does
abbrev pub view_through : {D : Type 0} → (D → MemDisk) → DiskView D
view_through held =
    record {
      seen = λ disk. seen_of (held disk);
      may_leave = λ disk. left_by (held disk);
      moment = λ disk. moment_of (held disk);
      left_since = λ disk. left_since_by (held disk);
      honest = λ disk. ⊤;
      counts = λ disk. counts_by (held disk);
      told = λ disk. told_of (held disk);
    }
