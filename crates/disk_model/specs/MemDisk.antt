-- A disk in memory, as contracts see it.
use Rattle.std.specs.Prelude.{⊤, ℕ, Bool, false, [], length, Option, None, Some}
use Rattle.disk_model.specs.declared.mem_disk.MemDisk.{MemDisk}
use Rattle.disk_model.specs.Calls.{call_counts, told_by}
use Rattle.disk_model.specs.Faults.{Counts}
use Rattle.disk_model.specs.Files.{seen_in, IsImageIn, LeftSince}
use Rattle.disk_model.specs.Images.{Image}
use Rattle.disk_model.specs.Told.{Told}
use Rattle.disk_model.specs.View.{DiskView}

-- what is in its files
abbrev pub seen_of : MemDisk → Image
seen_of disk = seen_in disk.files

-- the images that a stop may leave now
abbrev pub left_by : MemDisk → Image → Type 0
left_by disk image = IsImageIn disk.files image

-- its moment: how many changes its files have had
abbrev pub moment_of : MemDisk → ℕ
moment_of disk = length disk.history.items

-- the images that a stop might have left at one of the moments from a number on, or may leave now
abbrev pub left_since_by : MemDisk → ℕ → Image → Type 0
left_since_by disk start image = LeftSince disk.history.items disk.files start image

-- how often it has stopped a call, and how often it has failed
abbrev pub counts_by : MemDisk → Counts
counts_by disk = call_counts disk.calls

-- it tells all of its calls and files
abbrev pub told_of : MemDisk → Option Told
told_of disk = Some (told_by disk.calls disk.files)

-- what it says of itself
abbrev pub view_of : DiskView MemDisk
view_of =
    record {
      seen = seen_of;
      may_leave = left_by;
      moment = moment_of;
      left_since = left_since_by;
      honest = λ disk. ⊤;
      counts = counts_by;
      told = told_of;
    }

-- what it tells of its bytes
abbrev pub done_in : Option Told → Image → Image
done_in None other = other
done_in (Some told) other = told.done

-- three empty files
abbrev pub no_files : Image
no_files = record { chooser = []; area_a = []; area_b = [] }

-- a disk of three empty files that is neither armed nor stopped, and can fail or not
abbrev pub new_told : Bool → Told
new_told fails =
    record { fails = fails; arm = None; stopped = false; done = no_files; synced = no_files; touched = λ file place. false }
