-- The nodes of a book's replicas, and their disks.
use Rattle.std.specs.Prelude.{◌≡◌, ℕ, true, List, length, Some, slice_get}
use Rattle.launch_machine.specs.Clerk.{table_size}
use Rattle.disk_model.specs.View.{DiskView}
use Rattle.due_set.specs.Table.{Table}
use Rattle.agreement.specs.Transition.{identity_of}
use Rattle.history.specs.Book.{Row}
use Rattle.replica_node.specs.Kept.{IsNodeClean, area_by}
use Rattle.replica_node.specs.Node.{IsNodeAtRest, disk_of, replica_of, store_of}
use Rattle.replica_node.specs.Reliable.{IsReliable}
use Rattle.replica_node.specs.declared.node.Node.{Node}
use Rattle.replica_store.specs.Files.{FilesStand}
use Rattle.replica_store.specs.Store.{area_of}
use Rattle.script_semantics.specs.Situation.{after_turns, first_situation}
use Rattle.world_law.specs.Book.{BookState, standing_behind}

-- how many bases each replica has kept by the rows behind a book
abbrev pub bases_behind : Table → List Row → BookState → ℕ → ℕ
bases_behind table rows book = (after_turns book.members (first_situation book.members table) rows).bases

-- The disk of a node that has kept so many bases: it can't fail and isn't armed, nothing that the node uses of it waits for a sync, and
-- the area in use is the one to which so many bases have led.
pub record IsDiskAt {D : Type 0} (view : DiskView D) (bases : ℕ) (node : Node D) : Type 0 where
  pub reliable : IsReliable (view.told (disk_of node))
  pub clean : IsNodeClean view node
  pub area : area_of (store_of node) ≡ area_by bases

-- A node between two calls is that of a replica of the book, behind which these rows stand: it has the replica's state, where that runs,
-- and keeps what the replica keeps. Its disk is such as the rows have left it, and the files, as a read gives them, stand for what the replica keeps.
pub record IsNodeOf {D : Type 0} (view : DiskView D) (table : Table) (rows : List Row) (book : BookState) (who : ℕ) (node : Node D) : Type 0 where
  pub at_rest : IsNodeAtRest view table node
  pub trusted : view.honest (disk_of node)
  pub disk : IsDiskAt view (bases_behind table rows book who) node
  pub identity : (replica_of node).identity ≡ identity_of book.members who
  pub state : (standing_behind table rows book).runs who ≡ true → (replica_of node).state ≡ (standing_behind table rows book).replicas who
  pub kept : (replica_of node).state.kept ≡ ((standing_behind table rows book).replicas who).kept
  pub stand : FilesStand (table_size table) ((standing_behind table rows book).replicas who).kept (view.seen (disk_of node))

-- **The nodes are those of the book's replicas**: one of each, in the order of their numbers.
pub record AreNodesOf {D : Type 0} (view : DiskView D) (table : Table) (rows : List Row) (book : BookState) (nodes : List (Node D)) : Type 0 where
  pub count : length nodes ≡ book.members
  pub each : (who : ℕ) (node : Node D) → slice_get nodes who ≡ Some node → IsNodeOf view table rows book who node
