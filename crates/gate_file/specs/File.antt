-- A gated file and its disk.
use Rattle.std.specs.Prelude.{ℕ, List}
use Rattle.disk_model.specs.declared.fault.FileNo.{FileNo}
use Rattle.disk_model.specs.Images.{file_of, IsDurable}
use Rattle.disk_model.specs.View.{DiskView}
use Rattle.gate_file.specs.declared.gate_file.GateFile.{GateFile}
use Rattle.gate_file.specs.Gates.{HasRestingGate}

-- which file of the disk it is
abbrev pub file_no : GateFile → FileNo
file_no gates = gates.file

-- the bodies that it has, in order
abbrev pub bodies_of : GateFile → List (List ℕ)
bodies_of gates = gates.bodies.items

-- The disk's file is as the last call of the gated file left it: at rest with its bodies, whatever a stop does.
pub record IsFileAtRest {D : Type 0} (view : DiskView D) (disk : D) (gates : GateFile) : Type 0 where
  pub at_rest : HasRestingGate (file_of (file_no gates) (view.seen disk)) (bodies_of gates)
  pub durable : view.honest disk → IsDurable (file_no gates) (view.seen disk) (view.may_leave disk)
