-- Faults of a gated file by those of its disk.
use Rattle.std.proofs.Common.{◌≡◌, Result, Err, IsErrAnd, refl, ap, ◌∙◌}
use Rattle.std.proofs.lemmas.Result.{err_from_is_err_and}
use Rattle.disk_model.specs.declared.fault.DiskFault.{DiskFault}
use Rattle.disk_model.specs.declared.fault.DiskFault.TheVariants as Disk
use Rattle.gate_file.specs.declared.fault.GateFault.{GateFault}
use Rattle.gate_file.specs.declared.fault.GateFault.TheVariants as Gate
use Rattle.gate_file.specs.Faults.{gate_fault_of}

memory_of : (fault : DiskFault) → gate_fault_of fault ≡ Gate.OutOfMemory → fault ≡ Disk.OutOfMemory
memory_of Disk.Stopped is = absurd (cc is)
memory_of Disk.Failed is = absurd (cc is)
memory_of Disk.OutOfMemory is = refl

-- want of memory that was handed on
pub handed_on : {T U : Type 0} (fault : DiskFault) (below : Result T DiskFault) (result : Result U GateFault) → below ≡ Err fault → IsErrAnd result (λ e. e ≡ gate_fault_of fault) → result ≡ Err Gate.OutOfMemory → below ≡ Err Disk.OutOfMemory
handed_on fault below result was gives memory =
    let found = err_from_is_err_and result gives in
    let is : gate_fault_of fault ≡ Gate.OutOfMemory = cc (found.1, found.2, memory) in
    was ∙ ap Err (memory_of fault is)
