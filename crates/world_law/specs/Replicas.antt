-- A replica beside a book: it stands where the rows of the book leave it, and is told what the book has for it.
use Rattle.std.specs.Prelude.{◌≡◌, ℕ, ◌<◌, true, false, is_some, List, [], ◌∷◌, ◌++◌, Option, None, Some, slice_get}
use Rattle.paxos_base.specs.declared.durable.Delta.{Delta}
use Rattle.paxos_base.specs.declared.durable.Durable.{Durable}
use Rattle.cluster_sched.specs.declared.row.SchedRow.{SchedRow}
use Rattle.due_set.specs.Table.{Table}
use Rattle.agreement.specs.Transition.{identity_of}
use Rattle.history.specs.Book.{Row, Standing}
use Rattle.history.specs.Legal.{MayFollow}
use Rattle.history.specs.declared.turn.CallRow.{CallRow}
use Rattle.history.specs.declared.turn.Turn.TheVariants.{Did, Stopped, Restarted}
use Rattle.step_spec.specs.State.{started}
use Rattle.replica_core.specs.declared.out.StepOut.{StepOut}
use Rattle.history.specs.declared.turn.Cause.{Cause}
use Rattle.history.specs.declared.turn.Cause.TheVariants.{Campaign, Tick, Hear, Answer}
use Rattle.replica_core.specs.Replica.{ReplicaState}
use Rattle.replica_core.specs.Step.{IsOfTable}
use Rattle.replica_core.specs.declared.input.Input.{Input}
use Rattle.replica_core.specs.declared.input.Input.TheVariants as told
use Rattle.world_law.specs.Book.{BookState, IsRowOf, standing_behind}
use Rattle.world_law.specs.declared.letter.LetterRow.{LetterRow}

-- a replica of the book runs where these rows leave it: it has the state that it has behind them, and the launch table of that state
pub record StandsAt (table : Table) (rows : List Row) (book : BookState) (replica : ReplicaState) : Type 0 where
  pub identity : replica.identity ≡ identity_of book.members replica.identity.me
  pub member : replica.identity.me < book.members
  pub runs : (standing_behind table rows book).runs replica.identity.me ≡ true
  pub state : replica.state ≡ (standing_behind table rows book).replicas replica.identity.me
  pub of_table : IsOfTable table replica

-- the input is a letter of these bytes
abbrev pub IsLetterInput : Input → List ℕ → Type 0
IsLetterInput (told.Hear bytes) letter = bytes.now ≡ letter
IsLetterInput input letter = ⊥

-- a letter of the book that goes to the replica is what it is told
pub record IsToldLetter (book : BookState) (who number : ℕ) (input : Input) : Type 0 where
  pub letter : LetterRow
  pub there : slice_get book.letters number ≡ Some letter
  pub to : letter.to ≡ who
  pub is : IsLetterInput input letter.bytes

-- the answer that waits for the replica is what it is told
pub record IsToldAnswer (standing : Standing) (who : ℕ) (input : Input) : Type 0 where
  pub row : SchedRow
  pub waits : standing.waits who ≡ Some row
  pub is : input ≡ told.Answer row.name.job row.name.at row.kind

-- the input by which a replica is told of the cause of its turn
abbrev pub IsInputOf : Standing → BookState → ℕ → Cause → Input → Type 0
IsInputOf standing book who Campaign input = input ≡ told.Campaign
IsInputOf standing book who (Tick now) input = input ≡ told.Tick now
IsInputOf standing book who (Hear number) input = IsToldLetter book who number input
IsInputOf standing book who Answer input = IsToldAnswer standing who input

-- The step of a replica with this outcome is its turn, which may come next; behind it the replica stands where the step has left it.
pub record IsTurnOf (table : Table) (rows : List Row) (book : BookState) (who : ℕ) (cause : Cause) (made : Option CallRow) (out : StepOut)
    (new : ReplicaState) : Type 0 where
  pub row : Row
  pub is : IsRowOf (Did who cause made) out row
  pub may : MayFollow book.members table (standing_behind table rows book) row.turn row
  pub stands : (after : BookState) → after.members ≡ book.members → StandsAt table (rows ++ row ∷ []) after new

-- ---- a replica that stops, and starts again

-- a replica of the book is stopped where these rows leave it, and keeps this
pub record StandsStopped (table : Table) (rows : List Row) (book : BookState) (who : ℕ) (kept : Durable) : Type 0 where
  pub member : who < book.members
  pub stopped : (standing_behind table rows book).runs who ≡ false
  pub state : (standing_behind table rows book).replicas who ≡ started who kept

-- what comes of a turn that is no step: the change that was kept, where one was
abbrev pub change_alone : Option Delta → StepOut
change_alone change = record { delta = change; letters = []; learnt = []; call = None }

-- A stop of a replica, within a step or between two, is its turn, which may come next; it has the change that was kept, where one
-- was, and behind it the replica is stopped and keeps this.
pub record IsStopOf (table : Table) (rows : List Row) (book : BookState) (who : ℕ) (cause : Option Cause) (change : Option Delta)
    (kept : Durable) : Type 0 where
  pub row : Row
  pub is : IsRowOf (Stopped who cause (is_some change)) (change_alone change) row
  pub may : MayFollow book.members table (standing_behind table rows book) row.turn row
  pub stands : (after : BookState) → after.members ≡ book.members → StandsStopped table (rows ++ row ∷ []) after who kept

-- A replica that starts again does so in its turn, which may come next; behind it the replica stands as it has started.
pub record IsRestartOf (table : Table) (rows : List Row) (book : BookState) (new : ReplicaState) : Type 0 where
  pub row : Row
  pub is : IsRowOf (Restarted new.identity.me) (change_alone None) row
  pub may : MayFollow book.members table (standing_behind table rows book) row.turn row
  pub stands : (after : BookState) → after.members ≡ book.members → StandsAt table (rows ++ row ∷ []) after new
