-- The answers of a store by those of what it stands on.
use Rattle.std.specs.Prelude.{◌≡◌, ◌↔◌, ℕ, Result, Err}
use Rattle.disk_model.specs.declared.fault.DiskFault.{DiskFault}
use Rattle.disk_model.specs.declared.fault.DiskFault.TheVariants as Disk
use Rattle.disk_model.specs.Faults.{Counts, CountsAnswer}
use Rattle.disk_model.specs.View.{DiskView}
use Rattle.gate_file.specs.declared.fault.GateFault.{GateFault}
use Rattle.gate_file.specs.declared.fault.GateFault.TheVariants as Gate
use Rattle.store_format.specs.declared.fault.ReadFault.{ReadFault}
use Rattle.store_format.specs.declared.fault.ReadFault.TheVariants as Read
use Rattle.replica_store.specs.declared.fault.StoreFault.{StoreFault}
use Rattle.replica_store.specs.declared.fault.StoreFault.TheVariants as Store

-- the answer of a store to a fault of its disk
abbrev pub of_disk : DiskFault → StoreFault
of_disk Disk.Stopped = Store.Stopped
of_disk Disk.Failed = Store.DiskFault
of_disk Disk.OutOfMemory = Store.OutOfMemory

-- the answer of a store to a fault of a gated file
abbrev pub of_gates : GateFault → StoreFault
of_gates Gate.Stopped = Store.Stopped
of_gates Gate.DiskFault = Store.DiskFault
of_gates Gate.OutOfMemory = Store.OutOfMemory

-- the gate of a record has the record's number
abbrev pub of_records : ReadFault → StoreFault
of_records (Read.Damaged number) = Store.Damaged number
of_records Read.OutOfMemory = Store.OutOfMemory

-- what an answer of a store says of the counts of its disk's stops and faults
abbrev pub CountsStoreAnswer : {T : Type 0} → Counts → Counts → Result T StoreFault → Type 0
CountsStoreAnswer old new result = CountsAnswer Store.Stopped Store.DiskFault Store.OutOfMemory old new result

-- What each call of a store says of its disk whatever it answers: it is as honest as it was, and its counts rose where the
-- answer tells of it, and nowhere else.
pub record HasStoreAnswer {D T : Type 0} (view : DiskView D) (old new : D) (result : Result T StoreFault) : Type 0 where
  pub honest_still : view.honest new ↔ view.honest old
  pub counted : CountsStoreAnswer (view.counts old) (view.counts new) result
  pub damaged : (gate : ℕ) → result ≡ Err (Store.Damaged gate) → view.counts new ≡ view.counts old
