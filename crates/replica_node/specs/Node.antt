-- A replica on its disk.
use Rattle.std.specs.Prelude.{◌≡◌, ◌<◌, ◌≤◌, ◌⊎◌, ℕ, Bool, true, Option, None, Some, Result, Ok, Err, List, [], length}
use Rattle.std.specs.Option.{option_to_list}
use Rattle.launch_machine.specs.Clerk.{table_size}
use Rattle.disk_model.specs.Images.{Image}
use Rattle.disk_model.specs.Made.{DiskCall}
use Rattle.disk_model.specs.View.{DiskView}
use Rattle.due_set.specs.Table.{Table}
use Rattle.paxos_base.specs.declared.durable.Delta.{Delta}
use Rattle.step_spec.specs.Coherent.{IsCoherent}
use Rattle.step_spec.specs.Folds.{after_acts, deltas_of}
use Rattle.step_spec.specs.State.{State}
use Rattle.step_spec.specs.Step.{Event, step}
use Rattle.store_format.specs.Area.{StandFor}
use Rattle.replica_core.specs.Replica.{ReplicaState}
use Rattle.replica_core.specs.Step.{IsEventOf, IsOfTable}
use Rattle.replica_core.specs.declared.input.Input.{Input}
use Rattle.replica_store.specs.Files.{FilesStand, IsRecoverable}
use Rattle.replica_store.specs.Made.{save_calls}
use Rattle.replica_store.specs.Store.{area_of, size_of_store, records_of, IsInFormat2, StoreKeeps, IsStoreAtRest}
use Rattle.replica_store.specs.declared.store.Store.{Store}
use Rattle.replica_node.specs.declared.fault.NodeFault.{NodeFault}
use Rattle.replica_node.specs.declared.node.Node.{Node}

-- the replica of a node
abbrev pub replica_of : {D : Type 0} → Node D → ReplicaState
replica_of node = node.replica

-- the store of a node
abbrev pub store_of : {D : Type 0} → Node D → Store
store_of node = node.store

-- the disk of a node
abbrev pub disk_of : {D : Type 0} → Node D → D
disk_of node = node.disk

-- whether the node runs
abbrev pub runs_in : {D : Type 0} → Node D → Bool
runs_in node = node.running

-- the disk after a node was recovered: the node's, or the one that is handed back
abbrev pub disk_after : {D : Type 0} → Result (Node D) (D × NodeFault) → D
disk_after (Ok node) = disk_of node
disk_after (Err refused) = refused.0

-- that answer without the disk
abbrev pub fault_of : {D : Type 0} → Result (Node D) (D × NodeFault) → Result (Node D) NodeFault
fault_of (Ok node) = Ok node
fault_of (Err refused) = Err refused.1

-- What holds of a node that runs, between two of its calls. Its replica is one of at most seven and of this table of jobs, and is
-- coherent. Its store is at rest on its disk, is one of that table and in format 2, and keeps what the replica keeps.
pub record IsNodeAtRest {D : Type 0} (view : DiskView D) (table : Table) (node : Node D) : Type 0 where
  pub runs : runs_in node ≡ true
  pub member : (replica_of node).identity.me < (replica_of node).identity.members
  pub few : (replica_of node).identity.members ≤ 7
  pub of_table : IsOfTable table (replica_of node)
  pub coherent : IsCoherent (replica_of node).identity (replica_of node).state
  pub rests : IsStoreAtRest view (disk_of node) (store_of node)
  pub size : size_of_store (store_of node) ≡ table_size table
  pub format : IsInFormat2 (store_of node)
  pub keeps : StoreKeeps (store_of node) (replica_of node).state.kept

-- the replica's step at an input leads to this state
pub record LeadsTo (table : Table) (input : Input) (replica : ReplicaState) (after : State) : Type 0 where
  pub event : Event
  pub event_is : IsEventOf table replica input event
  pub after_is : after ≡ after_acts (step replica.identity event replica.state) replica.state

-- the replica's step at an input brings this change, or none
pub record IsChangeOf (table : Table) (input : Input) (replica : ReplicaState) (change : Option Delta) : Type 0 where
  pub event : Event
  pub event_is : IsEventOf table replica input event
  pub change_is : deltas_of (step replica.identity event replica.state) ≡ option_to_list change

-- the node's records stand for what its replica keeps, with this ballot as the replica's own
abbrev pub RecordsStand : {D : Type 0} → Node D → Option ℕ → Type 0
RecordsStand node own = StandFor (size_of_store (store_of node)) (records_of (store_of node)) (replica_of node).state.kept own

-- the calls of its disk that save a change, where there is one
abbrev pub disk_calls_for : {D : Type 0} → Node D → Option ℕ → Option Delta → List DiskCall
disk_calls_for node own None = []
disk_calls_for node own (Some change) = save_calls (area_of (store_of node)) (length (records_of (store_of node))) (replica_of node).state.kept own change

-- the files stand for what the replica keeps before its step at an input, or for what it keeps after it
abbrev pub FilesStandAround : Table → Input → ReplicaState → Image → Type 0
FilesStandAround table input replica image =
    FilesStand (table_size table) replica.state.kept image
    ⊎ ((after : State) × LeadsTo table input replica after × FilesStand (table_size table) after.kept image)

-- a replica can go on from the disk with what is kept before the step at an input or after it
abbrev pub IsRecoverableAround : Table → Input → ReplicaState → (Image → Type 0) → Type 0
IsRecoverableAround table input replica may_leave =
    (after : State) × LeadsTo table input replica after × IsRecoverable (table_size table) replica.state.kept after.kept may_leave
