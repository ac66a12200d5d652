-- A book: turns, each with the letters, votes and learned entries that it brought, and what the turns up to one come to.
use Rattle.std.specs.Prelude.{ℕ, ◌==◌, ◌&&◌, nat_lt, Bool, true, false, List, [], ◌∷◌, ◌++◌, map, Option, None, Some, if◌then◌else◌, slice_get}
use Rattle.std.specs.List.{find, flat_map, fold}
use Rattle.std.specs.Ordering.{int_eq}
use Rattle.paxos_base.specs.Durable.{after_delta}
use Rattle.paxos_base.specs.declared.durable.Delta.{Delta}
use Rattle.paxos_base.specs.declared.durable.Delta.TheVariants.{Voted}
use Rattle.paxos_base.specs.declared.durable.Durable.{Durable}
use Rattle.paxos_base.specs.declared.entry.Vote.{Vote}
use Rattle.paxos_base.specs.declared.rows.JobRow.{JobRow}
use Rattle.cluster_sched.specs.Fates.{added, call}
use Rattle.cluster_sched.specs.declared.row.Name.{Name}
use Rattle.cluster_sched.specs.declared.row.SchedRow.{SchedRow}
use Rattle.step_spec.specs.Act.{Act, Cast, Propose}
use Rattle.step_spec.specs.Folds.{after_acts, deltas_of}
use Rattle.step_spec.specs.State.{State, started}
use Rattle.step_spec.specs.Step.{Event, step}
use Rattle.step_spec.specs.declared.out.LearntRow.{LearntRow}
use Rattle.agreement.specs.Transition.{identity_of}
use Rattle.agreement.specs.World.{CastVote, Learning, fresh, with_replica}
use Rattle.history.specs.declared.turn.CallRow.{CallRow}
use Rattle.history.specs.declared.turn.Turn.{Turn}
use Rattle.history.specs.declared.turn.Turn.TheVariants.{Did, Stopped, Restarted, Arrived}
use Rattle.step_spec.specs.declared.out.OutLetter.{OutLetter}

-- A turn, and what it brought. The event is what its cause told the replica, with what the launch table said to that: a book
-- needn't keep it, since there is one for each cause.
pub record Row : Type 0 where
  pub turn : Turn
  pub event : Event
  pub letters : List OutLetter
  pub votes : List Vote
  pub learnt : List LearntRow

-- a letter of a book
pub record PostedLetter : Type 0 where
  pub from : ℕ
  pub to : ℕ
  pub bytes : List ℕ

-- What stands after some turns: the replicas, of which one that is stopped has what it keeps and nothing else; who runs, and
-- for whom an answer of the scheduler waits; the letters, by number; the rows that the scheduler holds, the calls that went
-- late, and the numbers of those that have arrived.
pub record Standing : Type 0 where
  pub replicas : ℕ → State
  pub runs : ℕ → Bool
  pub waits : ℕ → Option SchedRow
  pub posted : List PostedLetter
  pub held : List SchedRow
  pub late : List SchedRow
  pub arrived : List ℕ

-- the standing with which a book of so many replicas begins: each of them runs, and has nothing but these rows
abbrev pub first_standing : ℕ → List JobRow → Standing
first_standing members rows =
    record {
      replicas = λ who. started who (fresh rows);
      runs = λ who. nat_lt who members;
      waits = λ who. None;
      posted = [];
      held = [];
      late = [];
      arrived = [];
    }

-- the acts of a replica's step
abbrev pub acts_at : ℕ → Standing → ℕ → Event → List Act
acts_at members standing who event = step (identity_of members who) event (standing.replicas who)

-- a fact of each replica, with that of one of them changed
abbrev pub with_fact : {A : Type 0} → ℕ → A → (ℕ → A) → ℕ → A
with_fact who fact facts other = if other == who then fact else facts other

-- what is kept after some changes
abbrev pub durable_after : List Delta → Durable → Durable
durable_after [] kept = kept
durable_after (delta ∷ deltas) kept = durable_after deltas (after_delta delta kept)

-- the names are one
abbrev pub is_name : Name → Name → Bool
is_name one other = (one.job == other.job) && int_eq one.at other.at

-- the row that is held under a name, where there is one
abbrev pub under : Name → List SchedRow → Option SchedRow
under name held = find (λ row. is_name row.name name) held

-- the rows that a call adds to those that are held
abbrev pub held_after : Option CallRow → List SchedRow → List SchedRow
held_after None held = held
held_after (Some made) held = held ++ (call made.fate made.row (under made.row.name held)).held

-- the rows that a call adds to those that are late
abbrev pub late_after : Option CallRow → (held late : List SchedRow) → List SchedRow
late_after None held late = late
late_after (Some made) held late = late ++ (call made.fate made.row (under made.row.name held)).late

-- the row that answered a call, where one did
abbrev pub answer_to : Option CallRow → Option SchedRow
answer_to None = None
answer_to (Some made) = made.answer

-- the letters of a replica, in a book
abbrev pub post : ℕ → List OutLetter → List PostedLetter
post who letters = map (λ letter. record { from = who; to = letter.to; bytes = letter.bytes }) letters

-- a late call, in the place of that number
abbrev pub arriving : Option SchedRow → List SchedRow → List SchedRow
arriving None held = held
arriving (Some row) held = held ++ added row (under row.name held)

-- the late call of a number
abbrev pub late_call : ℕ → List SchedRow → Option SchedRow
late_call number late = slice_get late number

-- a turn in which a replica took its step
abbrev pub after_step : ℕ → ℕ → Event → Option CallRow → List OutLetter → Standing → Standing
after_step members who event made letters standing =
    record {
      replicas = with_replica who (after_acts (acts_at members standing who event) (standing.replicas who)) standing.replicas;
      runs = standing.runs;
      waits = with_fact who (answer_to made) standing.waits;
      posted = standing.posted ++ post who letters;
      held = held_after made standing.held;
      late = late_after made standing.held standing.late;
      arrived = standing.arrived;
    }

-- a turn in which a replica stopped, and kept this
abbrev pub after_stop : ℕ → Durable → Standing → Standing
after_stop who kept standing =
    record standing {
      replicas = with_replica who (started who kept) standing.replicas;
      runs = with_fact who false standing.runs;
      waits = with_fact who None standing.waits;
    }

-- what a replica keeps that stops within a step
abbrev pub kept_at : ℕ → Standing → ℕ → Event → Bool → Durable
kept_at members standing who event true = durable_after (deltas_of (acts_at members standing who event)) (standing.replicas who).kept
kept_at members standing who event false = (standing.replicas who).kept

-- what stands after a turn
unfoldable pub after_row : ℕ → Standing → Turn → Event → List OutLetter → Standing
after_row members standing (Did who cause made) event letters = after_step members who event made letters standing
after_row members standing (Stopped who cause kept) event letters = after_stop who (kept_at members standing who event kept) standing
after_row members standing (Restarted who) event letters = record standing { runs = with_fact who true standing.runs }
after_row members standing (Arrived number) event letters =
    record standing { held = arriving (late_call number standing.late) standing.held; arrived = standing.arrived ++ number ∷ [] }

-- what stands after some rows of a book
abbrev pub standing_after : ℕ → List JobRow → List Row → Standing
standing_after members rows book =
    fold (λ standing row. after_row members standing row.turn row.event row.letters) (first_standing members rows) book

-- who has a turn; an arrival is nobody's
abbrev pub turn_of : Turn → Option ℕ
turn_of (Did who cause made) = Some who
turn_of (Stopped who cause kept) = Some who
turn_of (Restarted who) = Some who
turn_of (Arrived number) = None

-- the votes that a replica casts; where there is none, none are cast
abbrev pub cast_votes : Option ℕ → List Vote → List CastVote
cast_votes None votes = []
cast_votes (Some who) votes = map (λ vote. record { by = who; vote = vote }) votes

-- the entries that a replica learns; where there is none, none are learned
abbrev pub learned_entries : Option ℕ → List LearntRow → List Learning
learned_entries None learnt = []
learned_entries (Some who) learnt = map (λ (row : LearntRow). record { by = who; slot = row.slot; entry = row.entry }) learnt

-- the votes of a book
abbrev pub votes_in : List Row → List CastVote
votes_in book = flat_map (λ row. cast_votes (turn_of row.turn) row.votes) book

-- the learned entries of a book
abbrev pub learned_in : List Row → List Learning
learned_in book = flat_map (λ row. learned_entries (turn_of row.turn) row.learnt) book

-- the votes of an act
abbrev pub votes_by : Act → List Vote
votes_by (Cast vote) = vote ∷ []
votes_by (Propose me vote) = vote ∷ []
votes_by act = []

-- the votes of some acts
abbrev pub votes_of : List Act → List Vote
votes_of acts = flat_map votes_by acts

-- the vote of a change of what is kept
abbrev pub vote_of_delta : Delta → List Vote
vote_of_delta (Voted vote) = vote ∷ []
vote_of_delta delta = []
