-- Disks that can't fail: whether one is armed to stop, or has stopped.
use Rattle.std.specs.Prelude.{◌≡◌, false, Option, None, Result, Ok, Err, IsSomeAnd}
use Rattle.disk_model.specs.Told.{Told}
use Rattle.replica_node.specs.declared.fault.NodeFault.{NodeFault}
use Rattle.replica_node.specs.declared.fault.NodeFault.TheVariants.{Stopped, DiskFault, OutOfMemory, Damaged, Letter}

-- a disk tells that it has not stopped, is not to stop, and can't fail
pub record RunsOn (now : Told) : Type 0 where
  pub runs : now.stopped ≡ false
  pub unarmed : now.arm ≡ None
  pub unfailing : now.fails ≡ false

-- a disk is reliable: it tells so
abbrev pub IsReliable : Option Told → Type 0
IsReliable told = IsSomeAnd told RunsOn

-- a disk tells that it can't fail, whether it is armed or not, and has stopped or not
abbrev pub CantFail : Option Told → Type 0
CantFail told = IsSomeAnd told (λ now. now.fails ≡ false)

-- a disk tells that it is not armed
abbrev pub IsUnarmed : Option Told → Type 0
IsUnarmed told = IsSomeAnd told (λ now. now.arm ≡ None)

-- a disk tells that it has not stopped, and can't fail; it may be armed
pub record RunsUnfailing (now : Told) : Type 0 where
  pub runs : now.stopped ≡ false
  pub unfailing : now.fails ≡ false

-- a disk is unfailing: it tells so
abbrev pub IsUnfailing : Option Told → Type 0
IsUnfailing told = IsSomeAnd told RunsUnfailing

-- A disk that was unfailing, after a call with this answer: it has not failed, and it is still unfailing; one that has stopped can't fail
-- either.
abbrev pub IsUnfailingAfter : {T : Type 0} → Result T NodeFault → Option Told → Type 0
IsUnfailingAfter (Ok answer) now = IsUnfailing now
IsUnfailingAfter (Err Stopped) now = CantFail now
IsUnfailingAfter (Err DiskFault) now = ⊥
IsUnfailingAfter (Err OutOfMemory) now = IsUnfailing now
IsUnfailingAfter (Err (Damaged gate)) now = IsUnfailing now
IsUnfailingAfter (Err (Letter letter)) now = IsUnfailing now
