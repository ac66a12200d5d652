-- Whether a change that was being saved is kept, where an armed disk stops within the save.
use Rattle.std.specs.Prelude.{◌≡◌, ◌⊎◌, ℕ, ◌%◌, ◌/◌, false, Option, Some, List, length}
use Rattle.paxos_base.specs.declared.rows.TableSize.{TableSize}
use Rattle.disk_model.specs.declared.armed.Arm.{Arm}
use Rattle.disk_model.specs.declared.fault.DiskFault.TheVariants.{Stopped}
use Rattle.disk_model.specs.declared.fault.FileNo.{FileNo}
use Rattle.disk_model.specs.declared.fault.FileNo.TheVariants.{Chooser}
use Rattle.disk_model.specs.Images.{file_of}
use Rattle.disk_model.specs.Made.{BreaksOff}
use Rattle.disk_model.specs.Told.{Told}
use Rattle.gate_file.specs.Gates.{HasRestingGate}
use Rattle.paxos_base.specs.declared.durable.Delta.{Delta}
use Rattle.paxos_base.specs.declared.durable.Durable.{Durable}
use Rattle.store_format.specs.Area.{BeginsInFormat1, StandFor}
use Rattle.store_format.specs.Order.{ChangeMayFollow}
use Rattle.replica_store.specs.Files.{selected}
use Rattle.replica_store.specs.Made.{save_calls}

-- nothing of the file was changed since its last sync
pub record IsClean (file : FileNo) (told : Told) : Type 0 where
  pub synced : file_of file told.synced ≡ file_of file told.done
  pub untouched : (place : ℕ) → told.touched file place ≡ false

-- The disk is as a save finds it: it runs, the chooser selects the area, both are synced, and the area is at rest with these
-- records.
pub record IsReady (area : FileNo) (records : List (List ℕ)) (told : Told) : Type 0 where
  pub runs : told.stopped ≡ false
  pub selects : selected told.done ≡ area
  pub chooser : IsClean Chooser told
  pub area_clean : IsClean area told
  pub at_rest : HasRestingGate (file_of area told.done) records

-- The disk was armed and stopped within the save of a change: a store kept this, with the replica's own ballot, in records of
-- the area, which are in format 2, and some of the calls of the save were done, and a stop came within the next one.
pub record StopsInSave (size : TableSize) (area : FileNo) (kept : Durable) (own : Option ℕ) (change : Delta) (arm : Arm) (old new : Told) : Type 0 where
  pub records : List (List ℕ)
  pub ready : IsReady area records old
  pub stand : StandFor size records kept own
  pub format : BeginsInFormat1 size records → ⊥
  pub follows : ChangeMayFollow size kept change
  pub armed : old.arm ≡ Some arm
  pub stops : BreaksOff Stopped (save_calls area (length records) kept own change) old new

-- The image of a number shows a byte that was written and not synced: it is the image with that write done, or the one with a
-- byte in its place that has P.
abbrev pub Shows : (ℕ → Type 0) → ℕ → Type 0
Shows P number = (number % 3 ≡ 1) ⊎ ((number % 3 ≡ 2) × P (number / 3 % 256))
