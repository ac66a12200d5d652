-- The three files in memory.
use Rattle.std.specs.Prelude.{◌≡◌, ◌≢◌, ◌⊎◌, ℕ, Bool, List, [], ◌∷◌, drop}
use Rattle.disk_model.specs.declared.fault.FileNo.{FileNo}
use Rattle.disk_model.specs.declared.fault.FileNo.TheVariants.{Chooser, AreaA, AreaB}
use Rattle.disk_model.specs.declared.mem_file.MemFile.{MemFile}
use Rattle.disk_model.specs.declared.mem_files.MemFiles.{MemFiles}
use Rattle.disk_model.specs.Images.{Image}
use Rattle.disk_model.specs.Memory.{file_bytes, synced_of, spans_of, IsImageOf, IsSameFile, Restores}
use Rattle.disk_model.specs.Touched.{is_touched}

-- one of the three files
abbrev pub mem_file : FileNo → MemFiles → MemFile
mem_file Chooser files = files.chooser
mem_file AreaA files = files.area_a
mem_file AreaB files = files.area_b

-- what is there
abbrev pub seen_in : MemFiles → Image
seen_in files =
    record { chooser = file_bytes files.chooser; area_a = file_bytes files.area_a; area_b = file_bytes files.area_b }

-- what the last syncs left
abbrev pub synced_in : MemFiles → Image
synced_in files =
    record { chooser = synced_of files.chooser; area_a = synced_of files.area_a; area_b = synced_of files.area_b }

-- where bytes were written since
abbrev pub touched_in : MemFiles → FileNo → ℕ → Bool
touched_in files file = is_touched (spans_of (mem_file file files))

-- a stop may leave the image: each file is what it may leave of it
pub record IsImageIn (files : MemFiles) (image : Image) : Type 0 where
  pub chooser : IsImageOf files.chooser image.chooser
  pub area_a : IsImageOf files.area_a image.area_a
  pub area_b : IsImageOf files.area_b image.area_b

-- one file changes so, and the others stay
pub record InMemFile (file : FileNo) (Step : MemFile → MemFile → Type 0) (old new : MemFiles) : Type 0 where
  pub step : Step (mem_file file old) (mem_file file new)
  pub others : (other : FileNo) → other ≢ file → mem_file other new ≡ mem_file other old

-- no file has a byte, a synced byte or a touched place
pub record AreEmpty (files : MemFiles) : Type 0 where
  pub seen : (file : FileNo) → file_bytes (mem_file file files) ≡ []
  pub synced : (file : FileNo) → synced_of (mem_file file files) ≡ []
  pub touched : (file : FileNo) → spans_of (mem_file file files) ≡ []

-- each file has the same bytes, synced ones and touched places
abbrev pub IsSame : MemFiles → MemFiles → Type 0
IsSame old new = (file : FileNo) → IsSameFile (mem_file file old) (mem_file file new)

-- each file is what it is in the image of a number
abbrev pub AllRestored : ℕ → MemFiles → MemFiles → Type 0
AllRestored image old new = (file : FileNo) → Restores image (mem_file file old) (mem_file file new)

-- ---- what was, at each moment

-- what the files were before each change, and which file changed
abbrev pub History : Type 0
History = List (MemFiles × FileNo)

-- a stop at one of these moments might have left the image
abbrev pub HadImage : History → Image → Type 0
HadImage [] image = ⊥
HadImage (before ∷ history) image = IsImageIn before.0 image ⊎ HadImage history image

-- a stop might have left it, at one of the moments from a number on or now
abbrev pub LeftSince : History → MemFiles → ℕ → Image → Type 0
LeftSince history now start image = IsImageIn now image ⊎ HadImage (drop start history) image
