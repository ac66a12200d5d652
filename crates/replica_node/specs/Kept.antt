-- Whether a step's change is kept, where an armed disk stops within its save.
use Rattle.std.specs.Prelude.{◌≡◌, ◌≤◌, ◌<◌, ◌⊎◌, ⊤, ℕ, false, Option, None, Some, Result, Ok, Err, IsSomeAnd}
use Rattle.paxos_base.specs.declared.rows.TableSize.{TableSize}
use Rattle.disk_model.specs.declared.armed.Arm.{Arm}
use Rattle.disk_model.specs.declared.fault.FileNo.{FileNo}
use Rattle.disk_model.specs.declared.fault.FileNo.TheVariants.{Chooser}
use Rattle.disk_model.specs.Images.{Image}
use Rattle.disk_model.specs.Told.{Told, image_left}
use Rattle.disk_model.specs.View.{DiskView}
use Rattle.paxos_base.specs.Durable.{after_delta}
use Rattle.paxos_base.specs.declared.durable.Delta.{Delta}
use Rattle.paxos_base.specs.declared.durable.Delta.TheVariants.{Tried, Promised, Voted, Base}
use Rattle.paxos_base.specs.declared.durable.Durable.{Durable}
use Rattle.save_calls.specs.Save as save
use Rattle.save_calls.specs.Save.{calls_before}
use Rattle.replica_store.specs.Files.{SelectsFormat1, selected, selected_by, other_area, FilesStand}
use Rattle.replica_store.specs.Kept.{IsClean, Shows}
use Rattle.replica_store.specs.Made.{area_after}
use Rattle.replica_store.specs.Store.{area_of}
use Rattle.replica_node.specs.Node.{disk_of, store_of}
use Rattle.replica_node.specs.declared.fault.NodeFault.{NodeFault}
use Rattle.replica_node.specs.declared.fault.NodeFault.TheVariants.{Stopped, DiskFault, OutOfMemory, Damaged, Letter}
use Rattle.replica_node.specs.declared.node.Node.{Node}

-- ---- the disk of a node between two calls

-- a disk tells that it runs, and that nothing of the chooser and of an area was written since its last sync
pub record IsAreaSynced (area : FileNo) (now : Told) : Type 0 where
  pub runs : now.stopped ≡ false
  pub chooser : IsClean Chooser now
  pub area_clean : IsClean area now

-- a node's disk tells so, of the area of the node's store
abbrev pub IsNodeClean : {D : Type 0} → DiskView D → Node D → Type 0
IsNodeClean view node = IsSomeAnd (view.told (disk_of node)) (IsAreaSynced (area_of (store_of node)))

-- it tells that it is armed so
abbrev pub IsNodeArmed : {D : Type 0} → DiskView D → Node D → Arm → Type 0
IsNodeArmed view node arm = IsSomeAnd (view.told (disk_of node)) (λ now. now.arm ≡ Some arm)

-- the area after the change of a step, where it has one
abbrev pub area_for : Option Delta → FileNo → FileNo
area_for None area = area
area_for (Some change) area = area_after change area

-- The area in use where so many bases were kept: each is the start of the other area, and the first is in use before there is one.
abbrev pub area_by : (bases : ℕ) → FileNo
area_by bases = selected_by bases

-- ---- by the numbers of its arm

-- How many calls of the disk save the change of a step, where it has one.
abbrev pub calls_of_change : Option Delta → ℕ
calls_of_change None = 0
calls_of_change (Some change) = save.calls_of_delta change

-- What comes of a step whose change takes so many calls, on a disk that can't fail and is armed to stop after so many: it is done
-- where they are enough, and stopped where they are not. Memory may run out.
abbrev pub EndsByArm : {T : Type 0} → (calls left : ℕ) → Result T NodeFault → Type 0
EndsByArm calls left (Ok answer) = calls ≤ left
EndsByArm calls left (Err Stopped) = left < calls
EndsByArm calls left (Err DiskFault) = ⊥
EndsByArm calls left (Err OutOfMemory) = ⊤
EndsByArm calls left (Err (Damaged gate)) = ⊥
EndsByArm calls left (Err (Letter letter)) = ⊥

-- The byte that makes a change hold shows the state after it: an open gate, or a chooser that selects the other area.
abbrev pub IsByteAfter : FileNo → Delta → ℕ → Type 0
IsByteAfter area (Tried ballot) byte = byte ≡ 1
IsByteAfter area (Promised ballot) byte = byte ≡ 1
IsByteAfter area (Voted vote) byte = byte ≡ 1
IsByteAfter area (Base slot rows) byte = selected_by byte ≡ other_area area

-- A disk that is armed so keeps a change in whose save it stops: it stops within the last two calls, and its image shows the
-- byte of the state after the change.
abbrev pub KeepsChange : FileNo → Delta → Arm → Type 0
KeepsChange area change arm = (calls_before change ≤ arm.left) × Shows (IsByteAfter area change) arm.image

-- An image stands for the state after a change where the disk keeps it, and selects the area after it, and else it stands for the
-- state before and selects the area of that; either is in format 2.
pub record IsKeptByArm (size : TableSize) (area : FileNo) (kept : Durable) (change : Delta) (arm : Arm) (image : Image) : Type 0 where
  pub saved : KeepsChange area change arm → FilesStand size (after_delta change kept) image
  pub lost : (KeepsChange area change arm → ⊥) → FilesStand size kept image
  pub saved_area : KeepsChange area change arm → selected image ≡ area_after change area
  pub lost_area : (KeepsChange area change arm → ⊥) → selected image ≡ area
  pub format : SelectsFormat1 size image → ⊥

-- the image that a disk's stop leaves does so
abbrev pub LeavesByArm : TableSize → FileNo → Durable → Delta → Arm → Option Told → Type 0
LeavesByArm size area kept change arm told = IsSomeAnd told (λ now. IsKeptByArm size area kept change arm (image_left now))

-- The answer is the change where the disk keeps it, and else none, but where what was kept is the same with the change.
pub record IsAnsweredByArm (area : FileNo) (kept : Durable) (change : Delta) (arm : Arm) (answer : Option Delta) : Type 0 where
  pub saved : KeepsChange area change arm → answer ≡ Some change
  pub lost : (KeepsChange area change arm → ⊥) → (answer ≡ None) ⊎ (after_delta change kept ≡ kept)
