-- The calls that a store makes, by what those that it stands on say of each.
use Rattle.std.proofs.Common.{◌≡◌, ℕ, Option, Some, List, map, [], ◌∷◌, ◌++◌, Result, Ok, Err, IsErrAnd, IsErrOf, refl, sym, ap, ◌∙◌, subst}
use Rattle.disk_model.specs.declared.fault.DiskFault.{DiskFault}
use Rattle.disk_model.specs.declared.fault.DiskFault.TheVariants as Disk
use Rattle.disk_model.specs.declared.fault.FileNo.{FileNo}
use Rattle.disk_model.specs.Told.{Told, AfterLook}
use Rattle.disk_model.specs.Made.{DiskCall, SyncOf, GaveAnswer, AllDone, BreaksOff, MadeCalls}
use Rattle.disk_model.proofs.MadeLemmas.{breaks_later, look_breaks, no_memory_first, one_done, runs_on, err_inner}
use Rattle.gate_file.specs.declared.fault.GateFault.{GateFault}
use Rattle.gate_file.specs.declared.fault.GateFault.TheVariants as Gate
use Rattle.gate_file.specs.Faults.{gate_fault_of}
use Rattle.gate_file.specs.Made.{append_calls}
use Rattle.paxos_base.specs.declared.durable.Delta.{Delta}
use Rattle.paxos_base.specs.declared.durable.Delta.TheVariants.{Tried, Promised, Voted, Base}
use Rattle.paxos_base.specs.declared.durable.Durable.{Durable}
use Rattle.store_format.specs.declared.body.Record.{Record}
use Rattle.store_format.specs.declared.fault.ReadFault.{ReadFault}
use Rattle.store_format.specs.declared.fault.ReadFault.TheVariants as Read
use Rattle.store_format.specs.Order.{delta_record}
use Rattle.paxos_base.specs.declared.rows.JobRow.{JobRow}
use Rattle.store_format.specs.Area.{base_records}
use Rattle.store_format.specs.Records.{AreRecords, record_bytes}
use Rattle.replica_store.specs.declared.fault.StoreFault.{StoreFault}
use Rattle.replica_store.specs.Faults.{of_disk, of_gates, of_records}
use Rattle.replica_store.specs.Made.{area_after, record_calls, save_calls}

-- ---- faults

pub disk_apart : (one other : DiskFault) → of_disk one ≡ of_disk other → one ≡ other
disk_apart Disk.Stopped Disk.Stopped is = refl
disk_apart Disk.Stopped Disk.Failed is = absurd (cc is)
disk_apart Disk.Stopped Disk.OutOfMemory is = absurd (cc is)
disk_apart Disk.Failed Disk.Stopped is = absurd (cc is)
disk_apart Disk.Failed Disk.Failed is = refl
disk_apart Disk.Failed Disk.OutOfMemory is = absurd (cc is)
disk_apart Disk.OutOfMemory Disk.Stopped is = absurd (cc is)
disk_apart Disk.OutOfMemory Disk.Failed is = absurd (cc is)
disk_apart Disk.OutOfMemory Disk.OutOfMemory is = refl

gates_apart : (one : GateFault) (other : DiskFault) → of_gates one ≡ of_disk other → one ≡ gate_fault_of other
gates_apart Gate.Stopped Disk.Stopped is = refl
gates_apart Gate.Stopped Disk.Failed is = absurd (cc is)
gates_apart Gate.Stopped Disk.OutOfMemory is = absurd (cc is)
gates_apart Gate.DiskFault Disk.Stopped is = absurd (cc is)
gates_apart Gate.DiskFault Disk.Failed is = refl
gates_apart Gate.DiskFault Disk.OutOfMemory is = absurd (cc is)
gates_apart Gate.OutOfMemory Disk.Stopped is = absurd (cc is)
gates_apart Gate.OutOfMemory Disk.Failed is = absurd (cc is)
gates_apart Gate.OutOfMemory Disk.OutOfMemory is = refl

records_memory : (one : ReadFault) (other : DiskFault) → of_records one ≡ of_disk other → other ≡ Disk.OutOfMemory
records_memory (Read.Damaged number) Disk.Stopped is = absurd (cc is)
records_memory (Read.Damaged number) Disk.Failed is = absurd (cc is)
records_memory (Read.Damaged number) Disk.OutOfMemory is = refl
records_memory Read.OutOfMemory Disk.Stopped is = absurd (cc is)
records_memory Read.OutOfMemory Disk.Failed is = absurd (cc is)
records_memory Read.OutOfMemory Disk.OutOfMemory is = refl

pub disk_handed : {T U : Type 0} (result : Result U StoreFault) (given : DiskFault) → IsErrAnd result (λ e. e ≡ of_disk given) → (fault : DiskFault) → IsErrOf result (of_disk fault) → ◌≡◌ {A = Result T DiskFault} (Err given) (Err fault)
disk_handed (Ok value) given gives fault is = absurd gives
disk_handed (Err found) given gives fault is = ap Err (disk_apart given fault (sym gives ∙ err_inner found (of_disk fault) is))

pub gates_handed : {T U : Type 0} (result : Result U StoreFault) (given : GateFault) → IsErrAnd result (λ e. e ≡ of_gates given) → (fault : DiskFault) → IsErrOf result (of_disk fault) → ◌≡◌ {A = Result T GateFault} (Err given) (Err (gate_fault_of fault))
gates_handed (Ok value) given gives fault is = absurd gives
gates_handed (Err found) given gives fault is = ap Err (gates_apart given fault (sym gives ∙ err_inner found (of_disk fault) is))

-- ---- calls

-- no memory for the records, or damage among them
pub records_made : {T : Type 0} (front back : List DiskCall) (given : ReadFault) (result : Result T StoreFault) → IsErrAnd result (λ e. e ≡ of_records given) → (old new : Told) → AllDone front old new → MadeCalls of_disk (front ++ back) result old new
records_made front back given (Ok value) gives old new first = absurd gives
records_made front back given (Err found) gives old new first =
    record {
      all = tt;
      broken = λ fault is. subst (λ f. BreaksOff f (front ++ back) old new) (sym (records_memory given fault (sym gives ∙ err_inner found (of_disk fault) is)))
          (breaks_later Disk.OutOfMemory front back old new new first (no_memory_first back new));
    }

-- a look after a sync
pub look_after : (file : FileNo) (fault : DiskFault) (old mid new : Told) → GaveAnswer (SyncOf file) (Ok tt) old mid → AfterLook {T = Unit} (Err fault) mid new → BreaksOff fault (SyncOf file ∷ []) old new
look_after file Disk.Stopped old mid new synced looked = breaks_later Disk.Stopped (SyncOf file ∷ []) [] old mid new (one_done (SyncOf file) old mid synced) (look_breaks Disk.Stopped [] mid new (runs_on (SyncOf file) old mid synced) looked)
look_after file Disk.Failed old mid new synced looked = breaks_later Disk.Failed (SyncOf file ∷ []) [] old mid new (one_done (SyncOf file) old mid synced) (look_breaks Disk.Failed [] mid new (runs_on (SyncOf file) old mid synced) looked)
look_after file Disk.OutOfMemory old mid new synced looked = absurd looked

-- the calls of a change that has a record
pub saves_record : (area : FileNo) (count : ℕ) (kept : Durable) (own : Option ℕ) (delta : Delta) (item : Record) → delta_record delta ≡ Some item → save_calls area count kept own delta ≡ append_calls area count (record_bytes item)
saves_record area count kept own (Tried ballot) item is = ap (record_calls area count) is
saves_record area count kept own (Promised ballot) item is = ap (record_calls area count) is
saves_record area count kept own (Voted vote) item is = ap (record_calls area count) is
saves_record area count kept own (Base slot rows) item is = absurd (cc is)

pub stays_in_area : (area : FileNo) (delta : Delta) (item : Record) → delta_record delta ≡ Some item → area_after delta area ≡ area
stays_in_area area (Tried ballot) item is = refl
stays_in_area area (Promised ballot) item is = refl
stays_in_area area (Voted vote) item is = refl
stays_in_area area (Base slot rows) item is = absurd (cc is)

-- the calls of an answer that is known
pub all_of : {T E : Type 0} (fault_as : DiskFault → E) (calls : List DiskCall) (result : Result T E) (value : T) → result ≡ Ok value → (old new : Told) → MadeCalls fault_as calls result old new → AllDone calls old new
all_of fault_as calls result value is old new made = (subst (λ r. MadeCalls fault_as calls r old new) is made).all

-- ---- records

-- the records of a base are spelled, as they were for what was read
pub base_is_spelled : (bodies : List (List ℕ)) (found kept : Durable) (found_own own : Option ℕ) (slot : ℕ) (rows : List JobRow) → bodies ≡ map record_bytes (base_records found found_own slot rows) → AreRecords bodies (base_records found found_own slot rows)
    → found ≡ kept → found_own ≡ own → AreRecords (map record_bytes (base_records kept own slot rows)) (base_records kept own slot rows)
base_is_spelled bodies found kept found_own own slot rows is are same_kept same_own =
    subst (λ o. AreRecords (map record_bytes (base_records kept o slot rows)) (base_records kept o slot rows)) same_own
    (subst (λ k. AreRecords (map record_bytes (base_records k found_own slot rows)) (base_records k found_own slot rows)) same_kept
    (subst (λ b. AreRecords b (base_records found found_own slot rows)) is are))

base_inner : (one other : ℕ) (rows others : List JobRow) → Base one rows ≡ Base other others → (one ≡ other) × (rows ≡ others)
base_inner one other rows others is = (cc is, cc is)

-- and so are those of the same base
pub same_base_spelled : (change : Delta) (kept : Durable) (own : Option ℕ) (found slot : ℕ) (found_rows rows : List JobRow) → change ≡ Base found found_rows → change ≡ Base slot rows
    → AreRecords (map record_bytes (base_records kept own found found_rows)) (base_records kept own found found_rows) → AreRecords (map record_bytes (base_records kept own slot rows)) (base_records kept own slot rows)
same_base_spelled change kept own found slot found_rows rows was is are =
    let same = base_inner found slot found_rows rows (sym was ∙ is) in
    subst (λ r. AreRecords (map record_bytes (base_records kept own slot r)) (base_records kept own slot r)) same.1
    (subst (λ s. AreRecords (map record_bytes (base_records kept own s found_rows)) (base_records kept own s found_rows)) same.0 are)
