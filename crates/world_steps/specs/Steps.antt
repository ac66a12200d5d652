-- The steps that a replica has taken beside a book, which has no turns of them yet.
use Rattle.std.specs.Prelude.{◌≡◌, ℕ, ◌<◌, ◌≤◌, ◌^◌, List, [], ◌∷◌, Option, None, Some, length, map}
use Rattle.std.specs.List.{flat_map}
use Rattle.std.specs.Option.{option_to_list}
use Rattle.disk_model.specs.View.{DiskView}
use Rattle.cluster_sched.specs.declared.row.SchedRow.{SchedRow}
use Rattle.due_set.specs.Table.{IsSound, Table}
use Rattle.paxos_base.specs.declared.durable.Delta.{Delta}
use Rattle.step_spec.specs.State.{started}
use Rattle.agreement.specs.Transition.{identity_of}
use Rattle.history.specs.Book.{Row, Standing}
use Rattle.history.specs.declared.turn.Cause.{Cause}
use Rattle.history.specs.declared.turn.Cause.TheVariants.{Campaign, Tick, Hear, Answer}
use Rattle.replica_core.specs.Replica.{ReplicaState}
use Rattle.replica_core.specs.Step.{IsInputInside, Steps}
use Rattle.replica_core.specs.declared.input.Input.{Input}
use Rattle.replica_core.specs.declared.input.Input.TheVariants as told
use Rattle.replica_node.specs.Node.{IsNodeAtRest, disk_of, replica_of}
use Rattle.replica_node.specs.declared.node.Node.{Node}
use Rattle.script_semantics.specs.Situation.{bases_with}
use Rattle.world_law.specs.Book.{BookState, StandsBehind, standing_behind}
use Rattle.world_law.specs.Replicas.{IsLetterInput, StandsAt}
use Rattle.world_law.specs.declared.letter.LetterRow.{LetterRow}
use Rattle.world_steps.specs.Nodes.{IsDiskAt, bases_behind}
use Rattle.world_steps.specs.Parts.{IsSentTo}
use Rattle.world_steps.specs.declared.steps.Taken.{Taken}

-- the input is a letter of that number, which goes to the replica
pub record IsLetterOf (letters : List LetterRow) (who number : ℕ) (input : Input) : Type 0 where
  pub sent : IsSentTo letters who number
  pub is : IsLetterInput input sent.letter.bytes

-- the input is the answer that waits
pub record IsAnswerOf (waits : Option SchedRow) (input : Input) : Type 0 where
  pub row : SchedRow
  pub waiting : waits ≡ Some row
  pub is : input ≡ told.Answer row.name.job row.name.at row.kind

-- by which input a replica is told of a cause, of these letters and with this answer that waits for it
abbrev pub IsToldOf : (letters : List LetterRow) → (waits : Option SchedRow) → (who : ℕ) → Cause → Input → Type 0
IsToldOf letters waits who Campaign input = input ≡ told.Campaign
IsToldOf letters waits who (Tick now) input = input ≡ told.Tick now
IsToldOf letters waits who (Hear number) input = IsLetterOf letters who number input
IsToldOf letters waits who Answer input = IsAnswerOf waits input

-- a replica took the step
pub record TookStep (table : Table) (letters : List LetterRow) (waits : Option SchedRow) (who : ℕ) (taken : Taken) (old new : ReplicaState) : Type 0 where
  pub input : Input
  pub is_told : IsToldOf letters waits who taken.cause input
  pub inside : IsInputInside table input
  pub steps : Steps table input old new taken.out

-- a replica took the steps, one after another, of which the first alone may take the answer that waits
abbrev pub TookSteps : Table → List LetterRow → Option SchedRow → ℕ → List Taken → ReplicaState → ReplicaState → Type 0
TookSteps table letters waits who [] old new = new ≡ old
TookSteps table letters waits who (taken ∷ more) old new =
    (middle : ReplicaState) × TookStep table letters waits who taken old middle × TookSteps table letters None who more middle new

-- the answer that waits after some steps, before they are turns
abbrev pub waits_behind : List Taken → Option SchedRow → Option SchedRow
waits_behind [] waits = waits
waits_behind (taken ∷ more) waits = None

-- the answer that waits for a replica, by some rows
abbrev pub waits_in : Table → List Row → BookState → ℕ → Option SchedRow
waits_in table rows book who = (standing_behind table rows book).waits who

-- the changes that steps have made
abbrev pub changes_of : List Taken → List Delta
changes_of steps = flat_map (λ taken. option_to_list taken.out.delta) steps

-- A node that runs, and is as many steps ahead of the book behind which these rows stand: its replica stood where the book has it, and
-- has taken the steps since.
pub record IsNodeAhead {D : Type 0} (view : DiskView D) (table : Table) (rows : List Row) (book : BookState) (who : ℕ) (steps : List Taken)
    (node : Node D) : Type 0 where
  pub at_rest : IsNodeAtRest view table node
  pub trusted : view.honest (disk_of node)
  pub disk : IsDiskAt view (bases_with (changes_of steps) (bases_behind table rows book who)) node
  pub first : ReplicaState
  pub stands : StandsAt table rows book first
  pub me : first.identity.me ≡ who
  pub took : TookSteps table book.letters (waits_in table rows book who) who steps first (replica_of node)

-- the node of a replica that is stopped and has kept so many bases: it keeps what the replica does, and has taken no step
pub record IsNodeStopped {D : Type 0} (view : DiskView D) (table : Table) (members : ℕ) (standing : Standing) (bases : ℕ) (who : ℕ)
    (steps : List Taken) (node : Node D) : Type 0 where
  pub at_rest : IsNodeAtRest view table node
  pub trusted : view.honest (disk_of node)
  pub disk : IsDiskAt view bases node
  pub identity : (replica_of node).identity ≡ identity_of members who
  pub none : steps ≡ []
  pub kept : standing.replicas who ≡ started who (replica_of node).state.kept

-- the node is so many steps ahead of a book at rest, behind which these rows stand
pub record IsBeside {D : Type 0} (view : DiskView D) (table : Table) (rows : List Row) (book : BookState) (who : ℕ) (steps : List Taken)
    (node : Node D) : Type 0 where
  pub sound : IsSound table
  pub behind : StandsBehind table rows book
  pub rest : book.pending ≡ None
  pub few : book.members ≤ 7
  pub ahead : IsNodeAhead view table rows book who steps node

-- a replica that is so many steps ahead of a book, behind which these rows stand, is told of a cause
pub record WasToldOf (table : Table) (rows : List Row) (book : BookState) (who : ℕ) (steps : List Taken) (cause : Cause) (input : Input) : Type 0 where
  pub is_told : IsToldOf book.letters (waits_behind steps (waits_in table rows book who)) who cause input
  pub inside : IsInputInside table input

-- a node may step for the cause: its replica is told of it beside a book of at most so many turns, and is few steps ahead
pub record MayStep {D : Type 0} (view : DiskView D) (table : Table) (turns : ℕ) (node : Node D) (cause : Cause) (input : Input) : Type 0 where
  pub rows : List Row
  pub book : BookState
  pub who : ℕ
  pub steps : List Taken
  pub beside : IsBeside view table rows book who steps node
  pub told : WasToldOf table rows book who steps cause input
  pub counted : length book.turns ≤ turns
  pub few : length steps < 2 ^ 31

-- ---- what steps were taken for

-- the causes of some steps
abbrev pub causes_of : List Taken → List Cause
causes_of steps = map (λ taken. taken.cause) steps

-- the letter that is heard for a cause
abbrev pub heard_for : Cause → List ℕ
heard_for (Hear number) = number ∷ []
heard_for cause = []

-- the letters that are heard for some causes
abbrev pub letters_heard_in : List Cause → List ℕ
letters_heard_in causes = flat_map heard_for causes
