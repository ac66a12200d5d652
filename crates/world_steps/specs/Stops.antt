-- A step of a replica on a disk that is armed: it is taken, or the disk stops within the save of its change.
use Rattle.std.specs.Prelude.{◌≡◌, ℕ, ◌<◌, ◌≤◌, Bool, true, false, List, [], ◌∷◌, Option, None, Some}
use Rattle.std.specs.Option.{option_to_list}
use Rattle.cluster_sched.specs.declared.row.SchedRow.{SchedRow}
use Rattle.disk_model.specs.declared.armed.Arm.{Arm}
use Rattle.disk_model.specs.View.{DiskView}
use Rattle.due_set.specs.Table.{Table}
use Rattle.paxos_base.specs.declared.durable.Delta.{Delta}
use Rattle.paxos_base.specs.declared.durable.Durable.{Durable}
use Rattle.save_calls.specs.Save.{calls_of_delta, is_kept}
use Rattle.step_spec.specs.Folds.{deltas_of}
use Rattle.step_spec.specs.State.{started}
use Rattle.step_spec.specs.Step.{Event, step}
use Rattle.agreement.specs.Transition.{identity_of}
use Rattle.history.specs.Book.{Row}
use Rattle.history.specs.declared.turn.Cause.{Cause}
use Rattle.replica_core.specs.Commit.{kept_after}
use Rattle.replica_core.specs.Replica.{ReplicaState}
use Rattle.replica_core.specs.Step.{IsEventOf, IsInputInside}
use Rattle.replica_core.specs.declared.input.Input.{Input}
use Rattle.replica_node.specs.Node.{IsNodeAtRest, disk_of, replica_of}
use Rattle.replica_node.specs.declared.node.Node.{Node}
use Rattle.script_semantics.specs.Arms.{IsEnough}
use Rattle.script_semantics.specs.Situation.{bases_with}
use Rattle.world_law.specs.Book.{BookState, StandsBehind}
use Rattle.world_law.specs.Replicas.{StandsAt}
use Rattle.world_law.specs.declared.letter.LetterRow.{LetterRow}
use Rattle.world_steps.specs.Nodes.{IsDiskAt, bases_behind}
use Rattle.world_steps.specs.Parts.{armed_in}
use Rattle.world_steps.specs.Steps.{IsBeside, IsToldOf, waits_in}
use Rattle.world_steps.specs.declared.armed.Outcome.{Outcome}
use Rattle.world_steps.specs.declared.armed.Outcome.TheVariants.{Taken, Stopped}

-- the change of a step in which a disk has stopped, where it is kept
abbrev pub change_kept : Bool → Delta → Option Delta
change_kept true change = Some change
change_kept false change = None

-- a replica was told of a cause, and its step changes what it keeps
pub record BeganStep (table : Table) (letters : List LetterRow) (waits : Option SchedRow) (who : ℕ) (cause : Cause) (old : ReplicaState)
    (change : Delta) : Type 0 where
  pub input : Input
  pub is_told : IsToldOf letters waits who cause input
  pub inside : IsInputInside table input
  pub event : Event
  pub event_is : IsEventOf table old input event
  pub changes : deltas_of (step old.identity event old.state) ≡ change ∷ []

-- A replica that stands where these rows of a book leave it has begun such a step beside the book.
pub record IsNextStop (table : Table) (rows : List Row) (book : BookState) (who : ℕ) (cause : Cause) (old : ReplicaState) (change : Delta) : Type 0 where
  pub behind : StandsBehind table rows book
  pub rest : book.pending ≡ None
  pub few : book.members ≤ 7
  pub stands : StandsAt table rows book old
  pub me : old.identity.me ≡ who
  pub began : BeganStep table book.letters (waits_in table rows book who) who cause old change

-- The node of a replica that has stopped within a step beside the book was attached again: it has kept the bases that these rows leave it,
-- with the change that is answered.
pub record IsAttached {D : Type 0} (view : DiskView D) (table : Table) (rows : List Row) (book : BookState) (who : ℕ) (answer : Option Delta)
    (node : Node D) : Type 0 where
  pub at_rest : IsNodeAtRest view table node
  pub trusted : view.honest (disk_of node)
  pub disk : IsDiskAt view (bases_with (option_to_list answer) (bases_behind table rows book who)) node
  pub identity : (replica_of node).identity ≡ identity_of book.members who
  pub started_with : (replica_of node).state ≡ started who (replica_of node).state.kept

-- **The disk has stopped within the save of the step's change**: there were too few calls left, and the numbers of the arm say whether the
-- change is kept. The replica keeps what it kept before the step, with the change or without.
pub record HasStopped (table : Table) (rows : List Row) (book : BookState) (who : ℕ) (cause : Cause) (arm : Arm) (answer : Option Delta)
    (kept : Durable) : Type 0 where
  pub old : ReplicaState
  pub change : Delta
  pub next : IsNextStop table rows book who cause old change
  pub few : arm.left < calls_of_delta change
  pub is_kept : answer ≡ change_kept (is_kept (bases_behind table rows book who) change arm.left arm.image) change
  pub keeps : kept ≡ kept_after answer old.state.kept

-- What came of a step on a disk that is armed so, or not: it was taken, and the calls that were left were enough, or the disk has stopped, and
-- the replica keeps this.
abbrev pub HasOutcome : Table → List Row → BookState → (who : ℕ) → Cause → Option Arm → Outcome → (kept : Durable) → Type 0
HasOutcome table rows book who cause arm (Taken taken) kept =
    (taken.cause ≡ cause) × IsEnough (armed_in arm) (option_to_list taken.out.delta)
HasOutcome table rows book who cause arm (Stopped answer) kept =
    (some : Arm) × (arm ≡ Some some) × HasStopped table rows book who cause some answer kept

-- and the node behind it: it is the step ahead of the book, or was attached again
abbrev pub IsNodeAfter : {D : Type 0} → (view : DiskView D) → Table → List Row → BookState → (who : ℕ) → Outcome → Node D → Type 0
IsNodeAfter view table rows book who (Taken taken) node = IsBeside view table rows book who (taken ∷ []) node
IsNodeAfter view table rows book who (Stopped answer) node = IsAttached view table rows book who answer node
