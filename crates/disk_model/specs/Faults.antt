-- The counts of a disk's stops and faults, and the answers that rest on them.
use Rattle.std.specs.Prelude.{◌≡◌, ◌≤◌, ℕ, Result, OnOk, IsErrOf}
use Rattle.cron_io.specs.Faults.{Rose}
use Rattle.disk_model.specs.declared.fault.DiskFault.{DiskFault}
use Rattle.disk_model.specs.declared.fault.DiskFault.TheVariants.{Stopped, Failed, OutOfMemory}

-- how often a disk has stopped a call, and how often it has failed
pub record Counts : Type 0 where
  pub stops : ℕ
  pub faults : ℕ

-- What an answer says of the counts, by what of its errors a stop, a fault and want of memory are: the count of stops rose at
-- a stop, that of faults at a fault, and no count falls, or rises elsewhere.
pub record CountsAnswer {T E : Type 0} (stop fail memory : E) (old new : Counts) (result : Result T E) : Type 0 where
  pub later_stops : old.stops ≤ new.stops
  pub later_faults : old.faults ≤ new.faults
  pub stopped : IsErrOf result stop → Rose old.stops new.stops
  pub stopped_alone : IsErrOf result stop → new.faults ≡ old.faults
  pub failed : IsErrOf result fail → Rose old.faults new.faults
  pub failed_alone : IsErrOf result fail → new.stops ≡ old.stops
  pub quiet : OnOk result (new ≡ old)
  pub no_memory : IsErrOf result memory → new ≡ old

-- of the answers of a disk
abbrev pub CountsDiskAnswer : {T : Type 0} → Counts → Counts → Result T DiskFault → Type 0
CountsDiskAnswer old new result = CountsAnswer Stopped Failed OutOfMemory old new result

-- a call that takes no memory never tells of want of it
abbrev pub WantsNoMemory : {T : Type 0} → Result T DiskFault → Type 0
WantsNoMemory result = IsErrOf result OutOfMemory → ⊥
