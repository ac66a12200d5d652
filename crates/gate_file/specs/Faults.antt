-- The answers of a gated file by those of its disk.
use Rattle.std.specs.Prelude.{◌↔◌, Result}
use Rattle.disk_model.specs.declared.fault.DiskFault.{DiskFault}
use Rattle.disk_model.specs.declared.fault.DiskFault.TheVariants.{Failed}
use Rattle.disk_model.specs.declared.fault.DiskFault.TheVariants as Disk
use Rattle.disk_model.specs.Faults.{Counts, CountsAnswer}
use Rattle.disk_model.specs.View.{DiskView}
use Rattle.gate_file.specs.declared.fault.GateFault.{GateFault}
use Rattle.gate_file.specs.declared.fault.GateFault.TheVariants as Gate

-- the answer of a gated file to a fault of its disk
abbrev pub gate_fault_of : DiskFault → GateFault
gate_fault_of Disk.Stopped = Gate.Stopped
gate_fault_of Disk.Failed = Gate.DiskFault
gate_fault_of Disk.OutOfMemory = Gate.OutOfMemory

-- what an answer of a gated file says of the counts of its disk's stops and faults
abbrev pub CountsGateAnswer : {T : Type 0} → Counts → Counts → Result T GateFault → Type 0
CountsGateAnswer old new result = CountsAnswer Gate.Stopped Gate.DiskFault Gate.OutOfMemory old new result

-- What each call of a gated file says of its disk whatever it answers: it is as honest as it was, and its counts rose where the
-- answer tells of it, and nowhere else.
pub record HasGateAnswer {D T : Type 0} (view : DiskView D) (old new : D) (result : Result T GateFault) : Type 0 where
  pub honest_still : view.honest new ↔ view.honest old
  pub counted : CountsGateAnswer (view.counts old) (view.counts new) result
