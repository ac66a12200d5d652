-- What is there is always one of the images that a stop may leave.
use Rattle.std.specs.Prelude.{◌⊎◌, ℕ, ◌<◌, ◌≤◌, length}
use mathlib.Core.Logic.{inl, inr}
use Rattle.std.proofs.lemmas.Bool.{cases_lt}
use Rattle.std.proofs.Math.Nat.{le_refl, le_of_lt}
use Rattle.disk_model.specs.declared.mem_file.MemFile.{MemFile}
use Rattle.disk_model.specs.declared.mem_files.MemFiles.{MemFiles}
use Rattle.disk_model.specs.Files.{seen_in, IsImageIn}
use Rattle.disk_model.specs.Memory.{file_bytes, synced_of, IsImageOf}
use Rattle.disk_model.specs.Touched.{IsBetween}

-- the second of two numbers lies between the two
between_ends : (one other : ℕ) → (other < one) ⊎ (one ≤ other) → IsBetween one other other
between_ends one other (inl less) = inr (le_refl other, le_of_lt less)
between_ends one other (inr more) = inl (more, le_refl other)

-- what is in a file in memory is one of the images that a stop may leave of it
file_left : (file : MemFile) → IsImageOf file (file_bytes file)
file_left file =
    record {
      size = between_ends (length (synced_of file)) (length (file_bytes file)) (cases_lt (length (file_bytes file)) (length (synced_of file)));
      others = λ place in_bytes in_synced not_touched. file.agrees place in_synced in_bytes not_touched;
    }

-- what is in the three files is one of the images that a stop may leave
pub seen_left : (files : MemFiles) → IsImageIn files (seen_in files)
seen_left files = record { chooser = file_left files.chooser; area_a = file_left files.area_a; area_b = file_left files.area_b }
