-- The files of a disk at one moment, and what a stop may make of them between two syncs.
-- Source: POSIX write(), ftruncate() and fsync(): what isn't synced may be lost, in part too; the images are this project's.
use Rattle.std.specs.Prelude.{◌≡◌, ◌≢◌, ◌⊎◌, ℕ, ◌+◌, ◌≤◌, min, max, List, ◌++◌, length, take, drop}
use Rattle.disk_model.specs.declared.fault.FileNo.{FileNo}
use Rattle.disk_model.specs.declared.fault.FileNo.TheVariants.{Chooser, AreaA, AreaB}

-- the bytes of the three files
pub record Image : Type 0 where
  pub chooser : List ℕ
  pub area_a : List ℕ
  pub area_b : List ℕ

-- the bytes of one of them
abbrev pub file_of : FileNo → Image → List ℕ
file_of Chooser image = image.chooser
file_of AreaA image = image.area_a
file_of AreaB image = image.area_b

-- the files with other bytes in one of them
abbrev pub with_file : FileNo → List ℕ → Image → Image
with_file Chooser bytes image = record image { chooser = bytes }
with_file AreaA bytes image = record image { area_a = bytes }
with_file AreaB bytes image = record image { area_b = bytes }

-- each other file has the same bytes
abbrev pub OthersStay : FileNo → Image → Image → Type 0
OthersStay file old new = (other : FileNo) → other ≢ file → file_of other new ≡ file_of other old

-- one file changes so, and the others stay
pub record InFile (file : FileNo) (Step : List ℕ → List ℕ → Type 0) (old new : Image) : Type 0 where
  pub step : Step (file_of file old) (file_of file new)
  pub others : OthersStay file old new

-- bytes with others written over them at an offset, and past their end
abbrev pub written_over : ℕ → List ℕ → List ℕ → List ℕ
written_over at piece bytes = take at bytes ++ (piece ++ drop (at + length piece) bytes)

-- the new bytes are the old ones with these written over them
abbrev pub HoldsPiece : ℕ → List ℕ → List ℕ → List ℕ → Type 0
HoldsPiece at piece old new = new ≡ written_over at piece old

-- After a write of so many bytes at an offset that a stop cuts short: any bytes there and past the old end, the same
-- elsewhere, and a length between.
pub record Torn (at count : ℕ) (old new : List ℕ) : Type 0 where
  pub before : take at new ≡ take at old
  pub after : drop (at + count) new ≡ drop (at + count) old
  pub no_shorter : length old ≤ length new
  pub no_longer : length new ≤ max (length old) (at + count)

-- after a cut to a length that a stop cuts short: some length between
pub record Cut (size : ℕ) (old new : List ℕ) : Type 0 where
  pub no_shorter : min size (length old) ≤ length new
  pub front : take (length new) old ≡ new

-- each image that a stop may leave now is one that it might have left before, after a step
abbrev pub ImagesFollow : (Image → Image → Type 0) → (Image → Type 0) → (Image → Type 0) → Type 0
ImagesFollow Step old new = (image : Image) → new image → (before : Image) × old before × Step before image

-- whatever image a stop leaves, the file has the bytes that a read gives
abbrev pub IsDurable : FileNo → Image → (Image → Type 0) → Type 0
IsDurable file seen may_leave = (image : Image) → may_leave image → file_of file image ≡ file_of file seen

-- a stop may leave no image that it might not have left before
abbrev pub NoNewImage : (Image → Type 0) → (Image → Type 0) → Type 0
NoNewImage old new = (image : Image) → new image → old image

-- whatever image a stop leaves, the file has P
abbrev pub AllHave : FileNo → (List ℕ → Type 0) → (Image → Type 0) → Type 0
AllHave file P may_leave = (image : Image) → may_leave image → P (file_of file image)

-- The file has P, and the other files are as in an image that could be left before.
abbrev pub InFileOnly : FileNo → (Image → Type 0) → (List ℕ → Type 0) → Image → Type 0
InFileOnly file before P image = (old : Image) × before old × OthersStay file old image × P (file_of file image)

-- ---- moments

-- Time goes on: a stop since a moment might have left what it might have left before, or what it may leave now.
pub record Elapses (before now : ℕ) (past since : ℕ → Image → Type 0) (may_leave : Image → Type 0) : Type 0 where
  pub later : before ≤ now
  pub nothing_else : (moment : ℕ) (image : Image) → moment ≤ before → since moment image → past moment image ⊎ may_leave image
  pub keeps : (moment : ℕ) (image : Image) → moment ≤ before → past moment image → since moment image
