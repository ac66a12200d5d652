-- The node of a replica that has no step left beside the book: it is that of the book's replica, and its files stand for what it keeps.
use Rattle.std.proofs.Common.{◌≡◌, ℕ, true, false, List, [], sym, ap, ◌∙◌, subst}
use Rattle.paxos_base.specs.declared.rows.TableSize.{TableSize}
use Rattle.launch_machine.specs.Clerk.{table_size}
use Rattle.disk_model.specs.Images.{file_of}
use Rattle.disk_model.specs.View.{DiskView}
use Rattle.due_set.specs.Table.{Table}
use Rattle.paxos_base.specs.declared.durable.Durable.{Durable}
use Rattle.gate_file.proofs.GateLemmas.{has_at_rest}
use Rattle.step_spec.specs.State.{State}
use Rattle.agreement.specs.Transition.{identity_of}
use Rattle.history.specs.Book.{Row}
use Rattle.replica_core.specs.Replica.{ReplicaState}
use Rattle.replica_node.specs.Node.{IsNodeAtRest, disk_of, replica_of, store_of}
use Rattle.replica_node.specs.declared.node.Node.{Node}
use Rattle.replica_store.proofs.KeptLemmas.{stands_in}
use Rattle.replica_store.specs.Files.{BodiesStand, FilesStand}
use Rattle.replica_store.specs.Store.{area_of, records_of}
use Rattle.world_law.specs.Book.{BookState, standing_behind}
use Rattle.world_steps.specs.Nodes.{IsNodeOf, bases_behind}
use Rattle.world_steps.specs.Steps.{IsNodeAhead, IsNodeStopped}

module _ {D : Type 0} (view : DiskView D) (table : Table) where
  -- the files of a node at rest stand for what its replica keeps
  pub files_of : (node : Node D) (kept : Durable) → IsNodeAtRest view table node → (replica_of node).state.kept ≡ kept → FilesStand (table_size table) kept (view.seen (disk_of node))
  files_of node kept rest is =
      stands_in (table_size table) kept (view.seen (disk_of node)) (area_of (store_of node)) (records_of (store_of node)) rest.rests.selects
      (has_at_rest (file_of (area_of (store_of node)) (view.seen (disk_of node))) (records_of (store_of node)) rest.rests.gates.at_rest)
      (subst (λ (kept : Durable). BodiesStand (table_size table) (records_of (store_of node)) kept) is
      (subst (λ (size : TableSize). BodiesStand size (records_of (store_of node)) (replica_of node).state.kept) rest.size rest.keeps))

  pub running_node : (rows : List Row) (book : BookState) (who : ℕ) (node : Node D) → IsNodeAhead view table rows book who [] node
      → IsNodeOf view table rows book who node
  running_node rows book who node ahead = record {
    at_rest = ahead.at_rest;
    trusted = ahead.trusted;
    disk = ahead.disk;
    identity = ap (λ (r : ReplicaState). r.identity) ahead.took ∙ ahead.stands.identity ∙ ap (identity_of book.members) ahead.me;
    state = λ runs. state_is;
    kept = kept_is;
    stand = files_of node ((standing_behind table rows book).replicas who).kept ahead.at_rest kept_is;
  }
    where
      state_is : (replica_of node).state ≡ (standing_behind table rows book).replicas who
      state_is = ap (λ (r : ReplicaState). r.state) ahead.took ∙ ahead.stands.state ∙ ap (standing_behind table rows book).replicas ahead.me

      kept_is : (replica_of node).state.kept ≡ ((standing_behind table rows book).replicas who).kept
      kept_is = ap (λ (s : State). s.kept) state_is

  pub stopped_node : (rows : List Row) (book : BookState) (who : ℕ) (node : Node D) → (standing_behind table rows book).runs who ≡ false
      → IsNodeStopped view table book.members (standing_behind table rows book) (bases_behind table rows book who) who [] node
      → IsNodeOf view table rows book who node
  stopped_node rows book who node ended stopped = record {
    at_rest = stopped.at_rest;
    trusted = stopped.trusted;
    disk = stopped.disk;
    identity = stopped.identity;
    state = λ runs. absurd (let both : true ≡ false = sym runs ∙ ended in cc);
    kept = kept_is;
    stand = files_of node ((standing_behind table rows book).replicas who).kept stopped.at_rest kept_is;
  }
    where
      kept_is : (replica_of node).state.kept ≡ ((standing_behind table rows book).replicas who).kept
      kept_is = sym (ap (λ (s : State). s.kept) stopped.kept)
