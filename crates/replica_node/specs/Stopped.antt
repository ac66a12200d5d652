-- A node that was stopped within the save of a step's change, and what a node that is reopened says of it.
use Rattle.std.specs.Prelude.{◌≡◌, ◌≢◌, false, Option, None, Some, Result, Ok, Err, List, [], ◌∷◌, IfSome}
use Rattle.launch_machine.specs.Clerk.{table_size}
use Rattle.disk_model.specs.Told.{Told, TellsStop}
use Rattle.disk_model.specs.View.{DiskView}
use Rattle.due_set.specs.Table.{Table}
use Rattle.paxos_base.specs.Durable.{after_delta}
use Rattle.paxos_base.specs.declared.durable.Delta.{Delta}
use Rattle.store_format.specs.Order.{ChangeMayFollow}
use Rattle.durable_changes.specs.Anew.{ProposesAnew}
use Rattle.step_spec.specs.Act.{Act}
use Rattle.step_spec.specs.Folds.{deltas_of}
use Rattle.replica_core.specs.Replica.{IsSmall, ReplicaState}
use Rattle.replica_core.specs.Step.{CanTake, IsOfTable, Plans}
use Rattle.replica_core.specs.declared.input.Input.{Input}
use Rattle.replica_core.specs.declared.replica.Planned.{Planned}
use Rattle.replica_store.specs.Files.{IsRecoverable}
use Rattle.replica_node.specs.Node.{disk_of, replica_of, runs_in, IsChangeOf}
use Rattle.replica_node.specs.declared.fault.NodeFault.{NodeFault}
use Rattle.replica_node.specs.declared.node.Node.{Node}

-- the step whose save was stopped, where one was
abbrev pub cut_short : {D : Type 0} → Node D → Option Planned
cut_short node = node.stopped

-- A replica has planned a step that makes this one change, and can take it. The change alters what is kept, unless it is a vote that
-- a leader has cast before it proposes it.
pub record HasPlanned (table : Table) (replica : ReplicaState) (planned : Planned) (change : Delta) : Type 0 where
  pub of_table : IsOfTable table replica
  pub small : IsSmall replica.state replica.machine.rows
  pub can_take : CanTake table replica planned
  pub acts : List Act
  pub plans : Plans replica acts planned
  pub changes : deltas_of acts ≡ change ∷ []
  pub follows : ChangeMayFollow (table_size table) replica.state.kept change
  pub alters : ProposesAnew replica.state → after_delta change replica.state.kept ≢ replica.state.kept

-- A node was stopped within the save of a step's change: it doesn't run, its replica is as before the step, its disk tells that it
-- has stopped, and a replica can go on from there with what is kept before the change or after it.
pub record IsStopped {D : Type 0} (view : DiskView D) (table : Table) (node : Node D) : Type 0 where
  pub ended : runs_in node ≡ false
  pub change : Delta
  pub planned : Planned
  pub is_cut_short : cut_short node ≡ Some planned
  pub has_planned : HasPlanned table (replica_of node) planned change
  pub stopped : TellsStop (view.told (disk_of node))
  pub recoverable : view.honest (disk_of node)
      → IsRecoverable (table_size table) (replica_of node).state.kept (after_delta change (replica_of node).state.kept) (view.may_leave (disk_of node))

-- a node was stopped within the save of a replica's step at an input
pub record IsStoppedWithin {D : Type 0} (view : DiskView D) (table : Table) (input : Input) (replica : ReplicaState) (node : Node D) : Type 0 where
  pub stop : IsStopped view table node
  pub change_of : IsChangeOf table input replica (Some stop.change)

-- a disk that tells of itself is neither armed nor stopped
abbrev pub IsDiskUnarmed : Option Told → Type 0
IsDiskUnarmed told = IfSome told (λ now. (now.stopped ≡ false) × (now.arm ≡ None))

-- the answer of a node that is reopened, without the change
abbrev pub reopened : {D : Type 0} → Result (Node D × Option Delta) (D × NodeFault) → Result (Node D) (D × NodeFault)
reopened (Ok found) = Ok found.0
reopened (Err refused) = Err refused
