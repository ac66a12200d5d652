-- Faults of a store by those of what it stands on.
use Rattle.std.proofs.Common.{◌≡◌, ℕ, Result, Err, IsErrAnd, refl, ap, ◌∙◌}
use Rattle.std.proofs.lemmas.Result.{err_from_is_err_and}
use Rattle.disk_model.specs.declared.fault.DiskFault.{DiskFault}
use Rattle.disk_model.specs.declared.fault.DiskFault.TheVariants as Disk
use Rattle.gate_file.specs.declared.fault.GateFault.{GateFault}
use Rattle.gate_file.specs.declared.fault.GateFault.TheVariants as Gate
use Rattle.store_format.specs.declared.fault.ReadFault.{ReadFault}
use Rattle.store_format.specs.declared.fault.ReadFault.TheVariants as Read
use Rattle.replica_store.specs.declared.fault.StoreFault.{StoreFault}
use Rattle.replica_store.specs.declared.fault.StoreFault.TheVariants as Store
use Rattle.replica_store.specs.Faults.{of_disk, of_gates, of_records}

damaged_record : (fault : ReadFault) (gate : ℕ) → of_records fault ≡ Store.Damaged gate → fault ≡ Read.Damaged gate
damaged_record (Read.Damaged number) gate is = cc is
damaged_record Read.OutOfMemory gate is = absurd (cc is)

-- a damaged record was handed on
pub damaged_below : {T : Type 0} (fault : ReadFault) (gate : ℕ) (result : Result T StoreFault) → IsErrAnd result (λ e. e ≡ of_records fault) → result ≡ Err (Store.Damaged gate) → fault ≡ Read.Damaged gate
damaged_below fault gate result gives is =
    let found = err_from_is_err_and result gives in
    damaged_record fault gate (cc (found.1, found.2, is))

pub not_memory : (fault : ReadFault) (gate : ℕ) → fault ≡ Read.OutOfMemory → fault ≡ Read.Damaged gate → ⊥
not_memory fault gate memory damaged = absurd (cc (memory, damaged))

-- a fault that was handed on as it is
pub same_fault : {T U : Type 0} (given : StoreFault) (below : Result T StoreFault) (result : Result U StoreFault) (fault : StoreFault) → below ≡ Err given → IsErrAnd result (λ e. e ≡ given) → result ≡ Err fault → below ≡ Err fault
same_fault given below result fault was gives is =
    let found = err_from_is_err_and result gives in
    let same : given ≡ fault = cc (found.1, found.2, is) in
    was ∙ ap Err same

memory_of : (fault : DiskFault) → of_disk fault ≡ Store.OutOfMemory → fault ≡ Disk.OutOfMemory
memory_of Disk.Stopped is = absurd (cc is)
memory_of Disk.Failed is = absurd (cc is)
memory_of Disk.OutOfMemory is = refl

-- want of memory that was handed on
pub handed_on : {T U : Type 0} (fault : DiskFault) (below : Result T DiskFault) (result : Result U StoreFault) → below ≡ Err fault → IsErrAnd result (λ e. e ≡ of_disk fault) → result ≡ Err Store.OutOfMemory → below ≡ Err Disk.OutOfMemory
handed_on fault below result was gives memory =
    let found = err_from_is_err_and result gives in
    was ∙ ap Err (memory_of fault (cc (found.1, found.2, memory)))

memory_of_gates : (fault : GateFault) → of_gates fault ≡ Store.OutOfMemory → fault ≡ Gate.OutOfMemory
memory_of_gates Gate.Stopped is = absurd (cc is)
memory_of_gates Gate.DiskFault is = absurd (cc is)
memory_of_gates Gate.OutOfMemory is = refl

pub gates_handed_on : {T U : Type 0} (fault : GateFault) (below : Result T GateFault) (result : Result U StoreFault) → below ≡ Err fault → IsErrAnd result (λ e. e ≡ of_gates fault) → result ≡ Err Store.OutOfMemory → below ≡ Err Gate.OutOfMemory
gates_handed_on fault below result was gives memory =
    let found = err_from_is_err_and result gives in
    was ∙ ap Err (memory_of_gates fault (cc (found.1, found.2, memory)))
