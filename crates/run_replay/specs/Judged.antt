-- A turn that a line tells, and which may come next.
use Rattle.std.specs.Prelude.{◌≡◌, ℕ, Bool, true, false, List, [], ◌∷◌, ◌++◌, length, Option, None, Some, slice_get, set}
use Rattle.std.specs.Option.{option_to_list}
use Rattle.due_set.specs.Table.{Table}
use Rattle.history.specs.Book.{Row, Standing, acts_at}
use Rattle.history.specs.Legal.{MayFollow, TakesTurn}
use Rattle.history.specs.declared.turn.Cause.{Cause}
use Rattle.history.specs.declared.turn.Turn.{Turn}
use Rattle.history.specs.declared.turn.Turn.TheVariants.{Did, Stopped}
use Rattle.paxos_base.specs.declared.durable.Delta.{Delta}
use Rattle.paxos_letter.specs.declared.fault.LetterFault.{LetterFault}
use Rattle.step_spec.specs.Folds.{deltas_of}
use Rattle.step_spec.specs.Step.{Event, step}
use Rattle.replica_core.specs.Replica.{ReplicaState}
use Rattle.replica_core.specs.Step.{IsEventOf, IsInputInside, Steps, fault_in}
use Rattle.replica_core.specs.declared.input.Input.{Input}
use Rattle.replica_core.specs.declared.out.StepOut.{StepOut}
use Rattle.journal_line.specs.Told.{ToldLine}
use Rattle.journal_text.specs.Line.{Tells}
use Rattle.script_semantics.specs.Situation.{Situation, changes_in}
use Rattle.world_law.specs.Book.{BookState, HasRoom, IsRowOf, IsSameBook, StandsBehind, call_of, standing_behind}
use Rattle.world_law.specs.Replicas.{IsInputOf, StandsAt}
use Rattle.run_replay.specs.Replay.{IsReplayAt, IsSeatOf}
use Rattle.run_replay.specs.declared.judge.Judged.{Judged}
use Rattle.run_replay.specs.declared.replay.Replay.{Replay}
use Rattle.run_replay.specs.declared.replay.Seat.{Seat}

-- the row may come next behind these, and the line tells its turn
pub record MayBeTold (table : Table) (rows : List Row) (book : BookState) (told : ToldLine) (row : Row) : Type 0 where
  pub may : MayFollow book.members table (standing_behind table rows book) row.turn row
  pub tells : Tells table (length rows) row.turn told

-- the replicas are where one row more leaves them
pub record AreSeatedThen (table : Table) (rows : List Row) (row : Row) (old new : Replay) : Type 0 where
  pub count : length new.seats.items ≡ length old.seats.items
  pub each : (who : ℕ) (seat : Seat) → slice_get new.seats.items who ≡ Some seat
      → (after : BookState) → after.members ≡ old.book.members → IsSeatOf table (rows ++ row ∷ []) after who seat

-- what a turn changes of what its replica keeps: the change of its step, where it is a step or a stop that has kept it, or else nothing
abbrev pub IsChangeKept : (members : ℕ) → Standing → Turn → Event → Option Delta → Type 0
IsChangeKept members standing (Did who cause made) event change = deltas_of (acts_at members standing who event) ≡ option_to_list change
IsChangeKept members standing (Stopped who (Some cause) true) event change = deltas_of (acts_at members standing who event) ≡ option_to_list change
IsChangeKept members standing turn event change = change ≡ None

-- the changes that the step of a turn makes: the one that is kept, or the one that a stop has lost
abbrev pub changes_with : (kept lost : Option Delta) → List Delta
changes_with (Some change) lost = change ∷ []
changes_with None lost = option_to_list lost

-- **A turn was judged that may come next**: its replica has taken it, its call is pending, and there is room for it in the book. The
-- turn hasn't joined the book, and what is set is as it was.
pub record IsJudged (table : Table) (rows : List Row) (told : ToldLine) (old new : Replay) (judged : Judged) : Type 0 where
  pub row : Row
  pub is : IsRowOf judged.turn judged.out row
  pub told_by : MayBeTold table rows old.book told row
  pub change : IsChangeKept old.book.members (standing_behind table rows old.book) judged.turn row.event judged.out.delta
  pub changes : changes_in old.book.members (standing_behind table rows old.book) judged.turn row.event ≡ changes_with judged.out.delta judged.lost
  pub behind : StandsBehind table rows new.book
  pub members : new.book.members ≡ old.book.members
  pub pending : new.book.pending ≡ call_of judged.turn
  pub room : HasRoom (length judged.out.letters) new.book
  pub seated : AreSeatedThen table rows row old new
  pub settings : new.settings ≡ old.settings
  pub cuts : new.cuts ≡ old.cuts
  pub latest : new.latest ≡ old.latest

-- the bytes that a replica is told are no letter
abbrev pub IsFaulty : (members : ℕ) → Input → Type 0
IsFaulty members input = (fault : LetterFault) × (fault_in members input ≡ Some fault)

-- the step of a replica at an input changes what it keeps so
pub record WouldChange (table : Table) (input : Input) (replica : ReplicaState) (change : Delta) : Type 0 where
  pub event : Event
  pub event_is : IsEventOf table replica input event
  pub changes : deltas_of (step replica.identity event replica.state) ≡ change ∷ []

-- the change that a stop within a step leaves, which is kept or lost
abbrev pub kept_change : (kept : Bool) → Delta → Option Delta
kept_change true change = Some change
kept_change false change = None

-- the step of a replica at an input changes nothing of what it keeps
pub record ChangesNothing (table : Table) (input : Input) (replica : ReplicaState) : Type 0 where
  pub event : Event
  pub event_is : IsEventOf table replica input event
  pub changes : deltas_of (step replica.identity event replica.state) ≡ []

-- A replica has taken its step for a cause, and there is room for its turn in the book. The turn hasn't joined the book, and what is set is as it was.
pub record HasMadeStep (table : Table) (rows : List Row) (who : ℕ) (cause : Cause) (old new : Replay) (out : StepOut) : Type 0 where
  pub before : ReplicaState
  pub stands : StandsAt table rows old.book before
  pub me : before.identity.me ≡ who
  pub input : Input
  pub told : IsInputOf (standing_behind table rows old.book) old.book who cause input
  pub inside : IsInputInside table input
  pub after : ReplicaState
  pub steps : Steps table input before after out
  pub seat : Seat
  pub runs : seat.replica ≡ Some after
  pub keeps : seat.kept ≡ after.state.kept
  pub seats : new.seats.items ≡ set old.seats.items who seat
  pub book : IsSameBook new.book old.book
  pub room : HasRoom (length out.letters) new.book
  pub settings : new.settings ≡ old.settings
  pub cuts : new.cuts ≡ old.cuts
  pub latest : new.latest ≡ old.latest

-- so it has, or it may have no turn for that cause
abbrev pub MayHaveStepped : Table → (who : ℕ) → Cause → (old new : Replay) → Option StepOut → Type 0
MayHaveStepped table who cause old new None =
    (rows : List Row) (situation : Situation) → IsReplayAt table rows old situation
    → (event : Event) → TakesTurn old.book.members table (standing_behind table rows old.book) who cause event → ⊥
MayHaveStepped table who cause old new (Some out) =
    (rows : List Row) (situation : Situation) → IsReplayAt table rows old situation → HasMadeStep table rows who cause old new out

-- no turn that may come next is told by the line
abbrev pub IsNone : Table → List Row → Replay → ToldLine → Type 0
IsNone table rows replay told = (row : Row) → MayBeTold table rows replay.book told row → ⊥

-- what was judged of the line of a replay, in whichever situation that was
abbrev pub Judges : Table → ToldLine → (old new : Replay) → Option Judged → Type 0
Judges table told old new None = (rows : List Row) (situation : Situation) → IsReplayAt table rows old situation → IsNone table rows old told
Judges table told old new (Some judged) =
    (rows : List Row) (situation : Situation) → IsReplayAt table rows old situation → IsJudged table rows told old new judged
