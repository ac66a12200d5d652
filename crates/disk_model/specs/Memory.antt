-- A file in memory, and what its calls do to it.
use Rattle.std.specs.Prelude.{◌≡◌, ℕ, ◌+◌, List, [], ◌∷◌, ◌++◌, length, take}
use Rattle.disk_model.specs.declared.span.Span.{Span}
use Rattle.disk_model.specs.declared.mem_file.MemFile.{MemFile}
use Rattle.disk_model.specs.Images.{written_over}
use Rattle.disk_model.specs.Told.{bytes_in_image}
use Rattle.disk_model.specs.Touched.{is_touched, IsLeft}

-- the bytes that are in the file
abbrev pub file_bytes : MemFile → List ℕ
file_bytes file = file.bytes.items

-- the bytes that its last sync left
abbrev pub synced_of : MemFile → List ℕ
synced_of file = file.synced.items

-- the places that were written since that sync
abbrev pub spans_of : MemFile → List Span
spans_of file = file.touched.items

-- what a stop may leave of a file in memory
abbrev pub IsImageOf : MemFile → List ℕ → Type 0
IsImageOf file image = IsLeft (synced_of file) (length (file_bytes file)) (is_touched (spans_of file)) image

-- ---- what the calls do to it

-- a piece is written over its bytes at an offset, and the places of the piece are touched
pub record IsWritten (at : ℕ) (piece : List ℕ) (old new : MemFile) : Type 0 where
  pub bytes : file_bytes new ≡ written_over at piece (file_bytes old)
  pub synced : synced_of new ≡ synced_of old
  pub touched : spans_of new ≡ spans_of old ++ record { from = at; until = at + length piece } ∷ []

-- its bytes are cut to a size; what is synced and what is touched stay
pub record IsFileCut (size : ℕ) (old new : MemFile) : Type 0 where
  pub bytes : file_bytes new ≡ take size (file_bytes old)
  pub synced : synced_of new ≡ synced_of old
  pub touched : spans_of new ≡ spans_of old

-- it has these bytes, they are synced, and no place is touched
pub record IsSynced (now : List ℕ) (new : MemFile) : Type 0 where
  pub bytes : file_bytes new ≡ now
  pub synced : synced_of new ≡ now
  pub touched : spans_of new ≡ []

-- it has the same bytes, synced ones and touched places
pub record IsSameFile (old new : MemFile) : Type 0 where
  pub bytes : file_bytes new ≡ file_bytes old
  pub synced : synced_of new ≡ synced_of old
  pub touched : spans_of new ≡ spans_of old

-- the file is what it is in the image of a number, and synced
abbrev pub Restores : ℕ → MemFile → MemFile → Type 0
Restores image old new = IsSynced (bytes_in_image image (synced_of old) (file_bytes old) (is_touched (spans_of old))) new
