-- What the files of a replica's disk stand for, and from what a replica can go on.
-- Source: docs/WIRE.md; the disk from which a replica can go on is this project's.
use Rattle.std.specs.Prelude.{◌≢◌, ◌⊎◌, ℕ, ◌%◌, ◌==◌, if◌then◌else◌, List, [], ◌∷◌, ◌++◌, get_or, Option, IfSome}
use Rattle.paxos_base.specs.declared.rows.TableSize.{TableSize}
use Rattle.disk_model.specs.declared.fault.FileNo.{FileNo}
use Rattle.disk_model.specs.declared.fault.FileNo.TheVariants.{AreaA, AreaB}
use Rattle.disk_model.specs.Images.{Image, file_of, AllHave}
use Rattle.gate_file.specs.Gates.{HasBodies, IsStaged}
use Rattle.paxos_base.specs.declared.durable.Durable.{Durable}
use Rattle.store_format.specs.Area.{BeginsInFormat1, StandFor}

-- the area that a byte selects: its low bit is 1 for the second
abbrev pub selected_by : ℕ → FileNo
selected_by byte = if byte % 2 == 1 then AreaB else AreaA

-- the area that the chooser selects; an empty one selects the first
abbrev pub selected : Image → FileNo
selected image = selected_by (get_or image.chooser 0 0)

-- the byte that selects an area
abbrev pub bit_of : FileNo → ℕ
bit_of AreaB = 1
bit_of _ = 0

-- the area that isn't this one
abbrev pub other_area : FileNo → FileNo
other_area AreaA = AreaB
other_area _ = AreaA

-- bodies stand for what is kept, whichever ballot is the replica's own
abbrev pub BodiesStand : TableSize → List (List ℕ) → Durable → Type 0
BodiesStand size bodies kept = (own : Option ℕ) × StandFor size bodies kept own

-- The files stand for what is kept: the bodies of the area that the chooser selects do.
pub record FilesStand (size : TableSize) (kept : Durable) (image : Image) : Type 0 where
  pub bodies : List (List ℕ)
  pub has : HasBodies (file_of (selected image) image) bodies
  pub stand : BodiesStand size bodies kept

-- the area that the chooser selects begins with a base of format 1
abbrev pub SelectsFormat1 : TableSize → Image → Type 0
SelectsFormat1 size image = (bodies : List (List ℕ)) × HasBodies (file_of (selected image) image) bodies × BeginsInFormat1 size bodies

-- the files stand for one of two states
abbrev pub FilesStandForEither : TableSize → Durable → Durable → Image → Type 0
FilesStandForEither size before after image = FilesStand size before image ⊎ FilesStand size after image

-- bodies stand for one of two states
abbrev pub BodiesStandForEither : TableSize → Durable → Durable → List (List ℕ) → Type 0
BodiesStandForEither size before after bodies = BodiesStand size bodies before ⊎ BodiesStand size bodies after

-- Whatever a stop leaves, the file has bodies that stand for one of two states, with a pending body, where there is one, or
-- without.
pub record IsAreaStaged (size : TableSize) (before after : Durable) (file : FileNo) (may_leave : Image → Type 0) : Type 0 where
  pub bodies : List (List ℕ)
  pub pending : Option (List ℕ)
  pub staged : AllHave file (IsStaged bodies pending) may_leave
  pub without : BodiesStandForEither size before after bodies
  pub with_it : IfSome pending (λ body. BodiesStandForEither size before after (bodies ++ body ∷ []))

-- no stop leaves a chooser that selects the file
abbrev pub IsNeverSelected : FileNo → (Image → Type 0) → Type 0
IsNeverSelected file may_leave = (image : Image) → may_leave image → selected image ≢ file

-- A replica can go on from whatever a stop leaves, with the state before a change or after it: each file that may be
-- selected stands for one of them, and so it does where a later call is cut short.
abbrev pub IsRecoverable : TableSize → Durable → Durable → (Image → Type 0) → Type 0
IsRecoverable size before after may_leave =
    (file : FileNo) → IsNeverSelected file may_leave ⊎ IsAreaStaged size before after file may_leave
