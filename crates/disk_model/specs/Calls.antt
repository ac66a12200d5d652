-- What a disk in memory tells of its calls.
use Rattle.std.specs.Prelude.{◌≡◌, ℕ, Bool, true, false, if◌then◌else◌, List, [], ◌∷◌, Option, None, Some, Result, Ok, Err}
use Rattle.disk_model.specs.declared.armed.Arm.{Arm}
use Rattle.disk_model.specs.declared.calls.Calls.{Calls}
use Rattle.disk_model.specs.declared.fault.DiskFault.{DiskFault}
use Rattle.disk_model.specs.declared.fault.DiskFault.TheVariants.{Stopped}
use Rattle.disk_model.specs.declared.mem_files.MemFiles.{MemFiles}
use Rattle.disk_model.specs.Faults.{Counts}
use Rattle.disk_model.specs.Files.{seen_in, synced_in, touched_in}
use Rattle.disk_model.specs.Told.{Told, is_due, one_less}

-- how often its calls were stopped, and how often they failed
abbrev pub call_counts : Calls → Counts
call_counts calls = record { stops = calls.stops; faults = calls.faults }

-- no stop yet, and no fault
abbrev pub no_counts : Counts
no_counts = record { stops = 0; faults = 0 }

-- a list has an element
abbrev pub is_listing : List ℕ → Bool
is_listing [] = false
is_listing (_ ∷ _) = true

-- a call is listed to fail
abbrev pub can_fail : Calls → Bool
can_fail calls = is_listing calls.fails.items

-- all that it tells
abbrev pub told_by : Calls → MemFiles → Told
told_by calls files =
    record {
      fails = can_fail calls;
      arm = calls.arm;
      stopped = calls.stopped;
      done = seen_in files;
      synced = synced_in files;
      touched = touched_in files;
    }

-- the number of the image that a stop leaves: the one that it was armed with, and 1 (the stopped call done) where it wasn't
abbrev pub number_by : Option Arm → ℕ
number_by None = 1
number_by (Some arm) = arm.image

-- the number of the image that a stop leaves, where it has come
abbrev pub image_left : Calls → Option ℕ
image_left calls = if calls.stopped then Some (number_by calls.arm) else None

-- it fails and stops as before
pub record HasSameArm (old new : Calls) : Type 0 where
  pub fails : new.fails ≡ old.fails
  pub arm : new.arm ≡ old.arm
  pub stopped : new.stopped ≡ old.stopped

-- a call succeeded, and one less is to; or it stopped
abbrev pub Passed : Calls → Calls → Result Unit DiskFault → Type 0
Passed old new (Ok _) =
    (new.fails ≡ old.fails) × (new.stopped ≡ false) × (is_due old.arm ≡ false) × (new.arm ≡ one_less old.arm)
Passed old new (Err Stopped) =
    (new.fails ≡ old.fails) × (new.stopped ≡ true) × (is_due old.arm ≡ true) × (new.arm ≡ old.arm)
Passed old new (Err _) = ⊥

-- it is armed so, unless it has stopped
pub record IsArmed (arm : Option Arm) (old new : Calls) : Type 0 where
  pub fails : new.fails ≡ old.fails
  pub set : new.arm ≡ (if old.stopped then old.arm else arm)
  pub stopped : new.stopped ≡ old.stopped
  pub counts : call_counts new ≡ call_counts old

-- it is neither armed nor stopped, where it had stopped
pub record IsRevived (old new : Calls) : Type 0 where
  pub fails : new.fails ≡ old.fails
  pub arm : new.arm ≡ (if old.stopped then None else old.arm)
  pub stopped : new.stopped ≡ false
  pub counts : call_counts new ≡ call_counts old
