-- Which calls that change a file were made, one after another, and which of them were done.
use Rattle.std.specs.Prelude.{◌≡◌, ℕ, ◌<◌, true, List, [], ◌∷◌, ◌++◌, length, take, slice_get, Some, Result, Ok, Err, OnOk, IsErrOf}
use Rattle.disk_model.specs.declared.fault.DiskFault.{DiskFault}
use Rattle.disk_model.specs.declared.fault.DiskFault.TheVariants.{Stopped, Failed, OutOfMemory}
use Rattle.disk_model.specs.declared.fault.FileNo.{FileNo}
use Rattle.disk_model.specs.Told.{Told, after_write, after_cut, after_sync, no_change, AfterCall}

-- a call of `write_at`, `cut` or `sync`, with what it is given
pub data DiskCall : Type 0 where
  WriteAt : FileNo → ℕ → List ℕ → DiskCall
  CutTo : FileNo → ℕ → DiskCall
  SyncOf : FileNo → DiskCall

-- what a call does that is done
abbrev pub after_done_call : DiskCall → Told → Told
after_done_call (WriteAt file at piece) = after_write file at piece
after_done_call (CutTo file size) = after_cut file size
after_done_call (SyncOf file) = after_sync file

-- what a call does where it stops within: a write and a cut are done, and a sync does nothing
abbrev pub after_stopped_call : DiskCall → Told → Told
after_stopped_call (WriteAt file at piece) = after_write file at piece
after_stopped_call (CutTo file size) = after_cut file size
after_stopped_call (SyncOf file) = no_change

-- the call gave this answer
abbrev pub GaveAnswer : DiskCall → Result Unit DiskFault → Told → Told → Type 0
GaveAnswer call result old new = AfterCall (after_done_call call) (after_stopped_call call) result old new

-- these calls were made in order, and each was done
abbrev pub AllDone : List DiskCall → Told → Told → Type 0
AllDone [] old new = new ≡ old
AllDone (first ∷ rest) old new = (mid : Told) × GaveAnswer first (Ok tt) old mid × AllDone rest mid new

-- What a fault does with the calls that were still to come: a stop comes within the first of them, and at another fault none of
-- them has done anything.
abbrev pub StopsCalls : DiskFault → List DiskCall → Told → Told → Type 0
StopsCalls Stopped [] old new = ⊥
StopsCalls Stopped (first ∷ rest) old new = GaveAnswer first (Err Stopped) old new
StopsCalls Failed rest old new = (old.fails ≡ true) × (new ≡ old)
StopsCalls OutOfMemory rest old new = new ≡ old

-- some of these calls were done, in order, and there a fault came
pub record BreaksOff (fault : DiskFault) (calls : List DiskCall) (old new : Told) : Type 0 where
  pub done : List DiskCall
  pub rest : List DiskCall
  pub parts : calls ≡ done ++ rest
  pub mid : Told
  pub made : AllDone done old mid
  pub ends : StopsCalls fault rest mid new

-- Of these calls so many were done, in order, and the next one was stopped within.
pub record StopsAt (count : ℕ) (calls : List DiskCall) (old new : Told) : Type 0 where
  pub within : count < length calls
  pub mid : Told
  pub made : AllDone (take count calls) old mid
  pub call : DiskCall
  pub is_next : slice_get calls count ≡ Some call
  pub stopped : GaveAnswer call (Err Stopped) mid new

-- What an answer says of the calls that were to be made, by what each fault of the disk is among its errors: at Ok all are
-- done, and at a fault they broke off there.
pub record MadeCalls {T E : Type 0} (fault_as : DiskFault → E) (calls : List DiskCall) (result : Result T E) (old new : Told) : Type 0 where
  pub all : OnOk result (AllDone calls old new)
  pub broken : (fault : DiskFault) → IsErrOf result (fault_as fault) → BreaksOff fault calls old new

-- a write that is synced
abbrev pub synced_write : FileNo → ℕ → List ℕ → List DiskCall
synced_write file at piece = WriteAt file at piece ∷ SyncOf file ∷ []
