-- A gated file that was read, and its disk.
use Rattle.std.specs.Prelude.{◌≡◌, ℕ, ◌*◌, ◌≤◌, true, false, List, length}
use Rattle.disk_model.specs.declared.fault.FileNo.{FileNo}
use Rattle.disk_model.specs.Images.{file_of, IsDurable}
use Rattle.disk_model.specs.View.{DiskView}
use Rattle.gate_file.specs.declared.read_gates.ReadGates.{ReadGates}
use Rattle.gate_file.specs.Gates.{HasBodies, IsClosedAt, IsNotClosedAt}

-- which file of the disk was read
abbrev pub file_read : ReadGates → FileNo
file_read gates = gates.file

-- the bodies that were read, in order
abbrev pub bodies_read : ReadGates → List (List ℕ)
bodies_read gates = gates.bodies.items

-- The disk's file is as it was read: it has the bodies, whatever a stop does.
pub record IsRead {D : Type 0} (view : DiskView D) (disk : D) (gates : ReadGates) : Type 0 where
  pub has : HasBodies (file_of (file_read gates) (view.seen disk)) (bodies_read gates)
  pub closed : gates.closed ≡ true → IsClosedAt (file_of (file_read gates) (view.seen disk)) (57 * length (bodies_read gates))
  pub not_closed : gates.closed ≡ false → IsNotClosedAt (file_of (file_read gates) (view.seen disk)) (57 * length (bodies_read gates))
  pub within : 57 * length (bodies_read gates) ≤ length (file_of (file_read gates) (view.seen disk))
  pub durable : view.honest disk → IsDurable (file_read gates) (view.seen disk) (view.may_leave disk)
