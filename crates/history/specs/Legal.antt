-- Which books are legal: each turn is judged by what stands after those before it.
use Rattle.std.specs.Prelude.{◌≡◌, ℕ, ◌<◌, Bool, true, false, List, [], ◌∷◌, take, Option, None, Some, Result, Ok, Err, slice_get, Contains}
use Rattle.zone_minutes.specs.Window.{IsInWindow}
use Rattle.paxos_base.specs.declared.rows.TableSize.{TableSize}
use Rattle.due_set.specs.Table.{Table}
use Rattle.launch_machine.specs.Clerk.{first_rows, table_size}
use Rattle.paxos_base.specs.declared.durable.Delta.{Delta}
use Rattle.paxos_base.specs.declared.entry.Vote.{Vote}
use Rattle.cluster_sched.specs.Fates.{call}
use Rattle.cluster_sched.specs.declared.fault.CallFault.{CallFault}
use Rattle.cluster_sched.specs.declared.row.SchedRow.{SchedRow}
use Rattle.step_spec.specs.Folds.{calls_of, deltas_of, learnt_of}
use Rattle.step_spec.specs.Message.{Message}
use Rattle.step_spec.specs.Step.{Event, IsPlanned, Plan}
use Rattle.step_spec.specs.Step as told
use Rattle.history.specs.Book.{PostedLetter, Row, Standing, acts_at, late_call, standing_after, under, vote_of_delta, votes_of}
use Rattle.agreement.specs.Transition.{identity_of}
use Rattle.step_spec.specs.Letters.{AreLettersOf, IsHeardAs}
use Rattle.history.specs.declared.turn.CallRow.{CallRow}
use Rattle.history.specs.declared.turn.Cause.{Cause}
use Rattle.history.specs.declared.turn.Cause.TheVariants.{Campaign, Tick, Hear, Answer}
use Rattle.history.specs.declared.turn.Turn.{Turn}
use Rattle.history.specs.declared.turn.Turn.TheVariants.{Did, Stopped, Restarted, Arrived}

-- a letter of the book that was sent to the replica is heard
pub record IsHeard (members : ℕ) (size : TableSize) (standing : Standing) (who number : ℕ) (event : Event) : Type 0 where
  pub letter : PostedLetter
  pub there : slice_get standing.posted number ≡ Some letter
  pub to : letter.to ≡ who
  pub messages : List Message
  pub heard : IsHeardAs members size letter.bytes letter.from messages
  pub is : event ≡ told.Hear letter.from messages

-- the answer that waits for the replica is taken
pub record IsAnswered (standing : Standing) (who : ℕ) (event : Event) : Type 0 where
  pub row : SchedRow
  pub waits : standing.waits who ≡ Some row
  pub plan : Plan
  pub is : event ≡ told.Answer row.name.job row.name.at row.kind plan.rows

-- what a cause tells the replica: a campaign or a tick at any time, a letter that was sent to it, an answer that waits
abbrev pub IsEventOfCause : ℕ → Table → Standing → (who : ℕ) → Cause → Event → Type 0
IsEventOfCause members table standing who Campaign event = event ≡ told.Campaign
IsEventOfCause members table standing who (Tick now) event =
    IsInWindow table.window now.0 × (plan : Plan) × (event ≡ told.Tick now.0 plan)
IsEventOfCause members table standing who (Hear number) event = IsHeard members (table_size table) standing who number event
IsEventOfCause members table standing who Answer event = IsAnswered standing who event

-- the replica runs and takes the cause, of which its launch table says what the event has
pub record TakesTurn (members : ℕ) (table : Table) (standing : Standing) (who : ℕ) (cause : Cause) (event : Event) : Type 0 where
  pub member : who < members
  pub runs : standing.runs who ≡ true
  pub event_of : IsEventOfCause members table standing who cause event
  pub planned : IsPlanned table (standing.replicas who) event

-- the answer of a call, where there is one
abbrev pub answered : Result SchedRow CallFault → Option SchedRow
answered (Ok row) = Some row
answered (Err fault) = None

-- the call that the acts ask for was made, whatever its fate, and was answered by the row that its fate lets it see
abbrev pub IsMade : (held calls : List SchedRow) → Option CallRow → Type 0
IsMade held [] made = made ≡ None
IsMade held (row ∷ calls) None = ⊥
IsMade held (row ∷ calls) (Some made) =
    (calls ≡ []) × (made.row ≡ row) × (made.answer ≡ answered (call made.fate row (under row.name held)).answer)

-- a turn brought no letter, no vote and no learned entry
pub record BringsNothing (row : Row) : Type 0 where
  pub letters : row.letters ≡ []
  pub votes : row.votes ≡ []
  pub learnt : row.learnt ≡ []

-- a turn brought what the step's acts bring, and the call that they ask for
pub record BringsStep (members : ℕ) (standing : Standing) (who : ℕ) (row : Row) (made : Option CallRow) : Type 0 where
  pub letters : AreLettersOf (identity_of members who) (acts_at members standing who row.event) row.letters
  pub votes : row.votes ≡ votes_of (acts_at members standing who row.event)
  pub learnt : row.learnt ≡ learnt_of (acts_at members standing who row.event)
  pub call : IsMade standing.held (calls_of (acts_at members standing who row.event)) made

-- the vote of a stop: that of the change, where it was kept
abbrev pub kept_votes : Bool → Delta → List Vote
kept_votes true delta = vote_of_delta delta
kept_votes false delta = []

-- a stop within a step that changes what is kept; nothing leaves but the vote that was kept
pub record StopsWithin (members : ℕ) (standing : Standing) (who : ℕ) (row : Row) (kept : Bool) : Type 0 where
  pub delta : Delta
  pub changes : deltas_of (acts_at members standing who row.event) ≡ delta ∷ []
  pub letters : row.letters ≡ []
  pub votes : row.votes ≡ kept_votes kept delta
  pub learnt : row.learnt ≡ []

-- a stop within a step, or between two
abbrev pub MayStop : ℕ → Table → Standing → (who : ℕ) → Option Cause → Row → Bool → Type 0
MayStop members table standing who None row kept =
    (who < members) × (standing.runs who ≡ true) × (kept ≡ false) × BringsNothing row
MayStop members table standing who (Some cause) row kept =
    TakesTurn members table standing who cause row.event × StopsWithin members standing who row kept

-- a late call that has not arrived yet
pub record IsLate (standing : Standing) (number : ℕ) : Type 0 where
  pub row : SchedRow
  pub there : late_call number standing.late ≡ Some row
  pub first : Contains standing.arrived number → ⊥

-- a turn that may come next
abbrev pub MayFollow : ℕ → Table → Standing → Turn → Row → Type 0
MayFollow members table standing (Did who cause made) row =
    TakesTurn members table standing who cause row.event × BringsStep members standing who row made
MayFollow members table standing (Stopped who cause kept) row = MayStop members table standing who cause row kept
MayFollow members table standing (Restarted who) row = (who < members) × (standing.runs who ≡ false) × BringsNothing row
MayFollow members table standing (Arrived number) row = IsLate standing number × BringsNothing row

-- A book is legal: each turn may come after those before it.
abbrev pub IsLegal : ℕ → Table → List Row → Type 0
IsLegal members table book =
    (number : ℕ) (row : Row) → slice_get book number ≡ Some row
    → MayFollow members table (standing_after members (first_rows table) (take number book)) row.turn row
