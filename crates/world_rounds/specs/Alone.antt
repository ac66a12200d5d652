-- A turn that is no step, and that joins a book; and a replica that starts again.
use Rattle.std.specs.Prelude.{◌≡◌, ℕ, true, List, [], ◌∷◌, ◌++◌, None, Option}
use Rattle.disk_model.specs.View.{DiskView}
use Rattle.due_set.specs.Table.{Table}
use Rattle.paxos_base.specs.declared.durable.Delta.{Delta}
use Rattle.step_spec.specs.State.{started}
use Rattle.agreement.specs.Transition.{identity_of}
use Rattle.history.specs.Book.{Row}
use Rattle.history.specs.Legal.{MayFollow}
use Rattle.history.specs.declared.turn.Turn.{Turn}
use Rattle.world_law.specs.Book.{BookState, IsRowOf, StandsBehind, call_of, standing_behind}
use Rattle.replica_node.specs.Kept.{IsNodeClean}
use Rattle.replica_node.specs.Node.{IsNodeAtRest, disk_of, replica_of, store_of}
use Rattle.replica_node.specs.Reliable.{IsReliable}
use Rattle.replica_store.specs.Files.{selected}
use Rattle.replica_store.specs.Store.{area_of}
use Rattle.world_law.specs.Replicas.{change_alone}
use Rattle.world_rounds.specs.declared.member.Member.{Member}

-- The turn may come next in a book at rest, as this row; it is no step that is taken, and has this change alone, where it has one.
pub record IsAlone (table : Table) (rows : List Row) (book : BookState) (turn : Turn) (change : Option Delta) (row : Row) : Type 0 where
  pub behind : StandsBehind table rows book
  pub rest : book.pending ≡ None
  pub call : call_of turn ≡ None
  pub is : IsRowOf turn (change_alone change) row
  pub may : MayFollow book.members table (standing_behind table rows book) row.turn row

-- The row has joined the book, and no letter has.
pub record HasJoinedAlone (table : Table) (rows : List Row) (old new : BookState) (row : Row) : Type 0 where
  pub behind : StandsBehind table (rows ++ row ∷ []) new
  pub rest : new.pending ≡ None
  pub members : new.members ≡ old.members
  pub letters : new.letters ≡ old.letters

-- A replica of so many runs again, from what it kept while it was stopped; what is on its way to it and set for it stays.
pub record HasStartedAgain {D : Type 0} (view : DiskView D) (table : Table) (members who : ℕ) (old new : Member D) : Type 0 where
  pub at_rest : IsNodeAtRest view table new.node
  pub trusted : view.honest (disk_of new.node)
  pub reliable : IsReliable (view.told (disk_of new.node))
  pub clean : IsNodeClean view new.node
  pub area : area_of (store_of new.node) ≡ selected (view.seen (disk_of old.node))
  pub identity : (replica_of new.node).identity ≡ identity_of members who
  pub state : (replica_of new.node).state ≡ started who (replica_of old.node).state.kept
  pub runs : new.mail.runs ≡ true
  pub letters : new.mail.letters ≡ old.mail.letters
  pub skew : new.mail.skew ≡ old.mail.skew
  pub fate : new.mail.fate ≡ old.mail.fate
  pub waits : new.mail.waits ≡ old.mail.waits
  pub arm : new.mail.arm ≡ old.mail.arm
  pub steps : new.steps ≡ old.steps
