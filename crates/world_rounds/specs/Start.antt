-- A world before any turn.
use Rattle.std.specs.Prelude.{◌≡◌, ℕ, [], true, None}
use Rattle.cluster_sched.specs.declared.fate.Fate.TheVariants.{Done}
use Rattle.disk_model.specs.Images.{Image, file_of}
use Rattle.disk_model.specs.declared.fault.FileNo.{FileNo}
use Rattle.due_set.specs.Table.{Table}
use Rattle.launch_machine.specs.Clerk.{first_rows}
use Rattle.step_spec.specs.State.{started}
use Rattle.agreement.specs.Transition.{identity_of}
use Rattle.agreement.specs.World.{fresh}
use Rattle.replica_node.specs.Node.{IsNodeAtRest, disk_of, replica_of}
use Rattle.replica_node.specs.Reliable.{IsReliable}
use Rattle.std.specs.Prelude.{pos}
use Rattle.disk_model.specs.View.{DiskView}
use Rattle.world_steps.specs.Nodes.{IsDiskAt}
use Rattle.world_rounds.specs.declared.member.Member.{Member}

-- The disk is honest and reliable: it is neither armed nor stopped, and can't fail. Its files are empty, whatever a stop leaves.
pub record IsFreshDisk {D : Type 0} (view : DiskView D) (disk : D) : Type 0 where
  pub trusted : view.honest disk
  pub reliable : IsReliable (view.told disk)
  pub empty : (image : Image) → view.may_leave disk image → (file : FileNo) → file_of file image ≡ []

-- a replica of so many that has done nothing yet
pub record IsFreshMember {D : Type 0} (view : DiskView D) (table : Table) (members who : ℕ) (member : Member D) : Type 0 where
  pub at_rest : IsNodeAtRest view table member.node
  pub trusted : view.honest (disk_of member.node)
  pub disk : IsDiskAt view 0 member.node
  pub identity : (replica_of member.node).identity ≡ identity_of members who
  pub state : (replica_of member.node).state ≡ started who (fresh (first_rows table))
  pub runs : member.mail.runs ≡ true
  pub letters : member.mail.letters.items ≡ []
  pub skew : member.mail.skew ≡ pos 0
  pub fate : member.mail.fate ≡ Done
  pub waits : member.mail.waits ≡ None
  pub arm : member.mail.arm ≡ None
  pub none : member.steps.items ≡ []
