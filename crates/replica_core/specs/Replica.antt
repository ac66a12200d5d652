-- A replica by the parts of the protocol, and what it is in the words of the protocol.
use Rattle.std.specs.Prelude.{◌≡◌, ℕ, ◌≤◌, ◌<◌, ◌^◌, List, [], Option, None, Some, length, unwrap_or, ◌+◌, ⊤}
use Rattle.paxos_base.specs.Ballot.{round_of}
use Rattle.paxos_base.specs.Rows.{OpenHaveCursors}
use Rattle.paxos_base.specs.Vote.{SlotsRise}
use Rattle.paxos_base.specs.declared.durable.Durable.{Durable}
use Rattle.paxos_base.specs.declared.entry.Vote.{Vote}
use Rattle.paxos_base.specs.declared.rows.JobRow.{JobRow}
use Rattle.acceptor_core.specs.Acceptor.{new_votes_in}
use Rattle.acceptor_core.specs.Acceptor as acceptor
use Rattle.learner_core.specs.Learner.{LearnerState}
use Rattle.learner_core.specs.Learner as learner
use Rattle.term_core.specs.Term.{best_votes}
use Rattle.term_core.specs.declared.term.Term.{Term}
use Rattle.term_core.specs.declared.term.Term.TheVariants.{Leader}
use Rattle.due_set.specs.Table.{Table}
use Rattle.launch_machine.specs.Machine.{CountsBelow, Launches, StandsFor}
use Rattle.step_spec.specs.State.{State, Identity, prefix_of}
use Rattle.step_spec.specs.Act.{Act}
use Rattle.replica_draft.specs.Draft.{Desk, FixedParts, delta_of, done, drafted, with_best}
use Rattle.replica_core.specs.Lines.{IsFixed}
use Rattle.replica_core.specs.Counts.{highest_count}
use Rattle.replica_core.specs.declared.parts.Core.{Core}
use Rattle.replica_draft.specs.declared.change.Change.{Change}
use Rattle.replica_draft.specs.declared.change.Change.TheVariants as change
use Rattle.replica_draft.specs.declared.change.Rebased.{Rebased}
use Rattle.replica_draft.specs.declared.draft.Draft.{Draft}

-- what a replica keeps on its disk
abbrev pub durable_in : Core → Durable
durable_in core =
    record {
      tried = core.tried;
      promised = core.acceptor.promised;
      votes = core.acceptor.votes;
      base = core.acceptor.base;
      rows = core.rows;
    }

-- what a replica knows
abbrev pub state_of : Core → State
state_of core = record { kept = durable_in core; learned = core.learner.entries; term = core.term; seen = core.seen }

-- which replica it is
abbrev pub own_identity : Core → Identity
own_identity core = record { me = core.me; members = core.members }

-- a replica: which one it is, what it knows, its launch table, and for how many votes and entries more it has room
pub record ReplicaState : Type 0 where
  pub identity : Identity
  pub state : State
  pub machine : Launches
  pub votes_room : ℕ
  pub entries_room : ℕ

-- a replica as its callers see it
abbrev pub replica_of_core : Core → ReplicaState
replica_of_core core =
    record {
      identity = own_identity core;
      state = state_of core;
      machine = core.machine;
      votes_room = core.acceptor.spare;
      entries_room = core.learner.spare;
    }

-- what a planned step doesn't change
abbrev pub fixed_in : ReplicaState → FixedParts
fixed_in replica = record { durable = replica.state.kept; learned = replica.state.learned; best = best_votes replica.state.term }

-- a step in which nothing was done yet
abbrev pub idle_in : ReplicaState → Desk
idle_in replica = record { state = replica.state; deltas = []; learnt = []; said = []; calls = [] }

-- what a draft of a replica doesn't change
abbrev pub fixed_of : Core → FixedParts
fixed_of core = fixed_in (replica_of_core core)

-- one replica is as another, but for the room that it has
pub record IsAlikeCore (one other : Core) : Type 0 where
  pub me : one.me ≡ other.me
  pub members : one.members ≡ other.members
  pub tried : one.tried ≡ other.tried
  pub acceptor : acceptor.IsSameAcceptor one.acceptor other.acceptor
  pub learner : learner.IsSameLearner one.learner other.learner
  pub rows : one.rows ≡ other.rows
  pub machine : one.machine ≡ other.machine
  pub term : one.term ≡ other.term
  pub seen : one.seen ≡ other.seen
  pub high_count : one.high_count ≡ other.high_count

-- for how many votes a change needs room
abbrev pub new_votes_of : Option Change → ℕ
new_votes_of None = 0
new_votes_of (Some change) = new_votes_in (delta_of change)

-- the replica has room for what a draft brings
pub record HasRoomFor (core : Core) (draft : Draft) : Type 0 where
  pub votes : new_votes_of draft.change ≤ core.acceptor.spare
  pub entries : length draft.learnt.items ≤ core.learner.spare

-- the launch table that a change brings, where it brings one
abbrev pub rebased_of : Option Change → Option Rebased
rebased_of (Some (change.Rebased rebased)) = Some rebased
rebased_of (Some (change.Tried ballot)) = None
rebased_of (Some (change.Promised ballot)) = None
rebased_of (Some (change.Voted vote)) = None
rebased_of None = None

-- the new base of a change, or else this one
abbrev pub base_of : Option Change → ℕ → ℕ
base_of (Some (change.Rebased rebased)) base = rebased.slot
base_of (Some (change.Tried ballot)) base = base
base_of (Some (change.Promised ballot)) base = base
base_of (Some (change.Voted vote)) base = base
base_of None base = base

-- the first slot that isn't learned behind the new base of a change, or else this one
abbrev pub next_of : Option Change → ℕ → ℕ
next_of (Some (change.Rebased rebased)) next = rebased.slot + length rebased.since
next_of (Some (change.Tried ballot)) next = next
next_of (Some (change.Promised ballot)) next = next
next_of (Some (change.Voted vote)) next = next
next_of None next = next

-- how many entries were learned behind the new base of a change
abbrev pub since_of : Option Change → ℕ
since_of (Some (change.Rebased rebased)) = length rebased.since
since_of (Some (change.Tried ballot)) = 0
since_of (Some (change.Promised ballot)) = 0
since_of (Some (change.Voted vote)) = 0
since_of None = 0

-- the launch table at the new base of a change, or else these rows
abbrev pub rows_of : Option Change → List JobRow → List JobRow
rows_of (Some (change.Rebased rebased)) rows = rebased.rows
rows_of (Some (change.Tried ballot)) rows = rows
rows_of (Some (change.Promised ballot)) rows = rows
rows_of (Some (change.Voted vote)) rows = rows
rows_of None rows = rows

-- The launch table that a change brings is one of this table of jobs, and it has a machine: its own, or else this one. Its slot isn't
-- one of those that are learned, and its counts are within the bounds.
pub record BringsTable (table : Table) (machine : Launches) (base prefix : ℕ) (rebased : Rebased) : Type 0 where
  pub stands : StandsFor table (unwrap_or rebased.machine machine)
  pub rows : (unwrap_or rebased.machine machine).rows ≡ rebased.rows
  pub counts : CountsBelow (2 ^ 31) rebased.rows
  pub cursors : OpenHaveCursors rebased.rows
  pub past : base < rebased.slot
  pub up : prefix ≤ rebased.slot

-- a change that brings a launch table brings one that can be taken
abbrev pub IsSupplied : Table → Launches → (base prefix : ℕ) → Option Change → Type 0
IsSupplied table machine base prefix (Some (change.Rebased rebased)) = BringsTable table machine base prefix rebased
IsSupplied table machine base prefix (Some (change.Tried ballot)) = ⊤
IsSupplied table machine base prefix (Some (change.Promised ballot)) = ⊤
IsSupplied table machine base prefix (Some (change.Voted vote)) = ⊤
IsSupplied table machine base prefix None = ⊤

-- a flight of the term stands at the slot
abbrev pub FliesAt : ℕ → Term → Type 0
FliesAt prefix (Leader ballot best (Some flight)) = flight.slot ≡ prefix
FliesAt prefix term = ⊤

-- the first slot that isn't learned, with what a draft has learned
abbrev pub next_slot : LearnerState → Draft → ℕ
next_slot learns draft = next_of draft.change (learner.learned_prefix learns + length draft.learnt.items)

-- What holds of a draft between two packets, of a replica with this launch table, base and first slot that isn't learned: its flight,
-- where it has one, stands at the first slot that isn't learned; of a new base, the slot is within the bounds, no more was learned
-- behind it than in all, and its launch table is one of the table of jobs.
pub record IsSteadyAt (table : Table) (machine : Launches) (base prefix : ℕ) (draft : Draft) : Type 0 where
  pub flies : FliesAt (next_of draft.change (prefix + length draft.learnt.items)) draft.term
  pub low : base_of draft.change 0 < 2 ^ 62
  pub since : since_of draft.change ≤ length draft.learnt.items
  pub supplied : IsSupplied table machine base prefix draft.change

-- a draft is steady beside the replica that it is of
abbrev pub IsDraftSteady : Table → Core → Draft → Type 0
IsDraftSteady table core draft = IsSteadyAt table core.machine core.learner.base (learner.learned_prefix core.learner) draft

-- it holds still
abbrev pub StaysSteady : Core → Draft → Draft → Type 0
StaysSteady core old new = (table : Table) → IsDraftSteady table core old → IsDraftSteady table core new

-- how many changes a draft has
abbrev pub changes_of_draft : Option Change → ℕ
changes_of_draft None = 0
changes_of_draft (Some made) = 1

-- so it does, and there are as many changes as before
pub record KeepsItsChange (core : Core) (old new : Draft) : Type 0 where
  pub steady : StaysSteady core old new
  pub once : changes_of_draft new.change ≡ changes_of_draft old.change

-- the votes that bind the draft's term
abbrev pub best_in : Core → Draft → List Vote
best_in core draft = unwrap_or draft.best (best_votes core.term)

-- a draft goes on by the acts that its term asks for
abbrev pub DoesAsTerm : Core → Draft → Draft → (Term → List Act) → Type 0
DoesAsTerm core old new acts =
    (kept : FixedParts) → IsFixed core kept → kept.best ≡ best_votes core.term → drafted kept new ≡ done (acts (drafted kept old).state.term) (drafted kept old)

-- a step of a replica in which nothing was done yet
abbrev pub idle_desk : Core → Desk
idle_desk core = idle_in (replica_of_core core)

-- a draft of the replica in which nothing was done yet
pub record IsUntouched (core : Core) (draft : Draft) : Type 0 where
  pub stands : drafted (fixed_of core) draft ≡ idle_desk core
  pub best : draft.best ≡ None
  pub change : draft.change ≡ None
  pub call : draft.call ≡ None
  pub learnt : draft.learnt.items ≡ []
  pub term : with_best (best_votes core.term) draft.term ≡ core.term

-- a draft does just these acts
abbrev pub Makes : Core → List Act → Draft → Type 0
Makes core acts draft = drafted (fixed_of core) draft ≡ done acts (idle_desk core)

-- What a replica needs to be at a step so that its numbers fit: the rounds of the ballots that it has tried and seen, the first slot
-- that it has not learned, and the counts of its rows are within bounds.
pub record IsSmall (state : State) (rows : List JobRow) : Type 0 where
  pub tried : state.kept.tried < 2 ^ 59
  pub seen : round_of state.seen < 2 ^ 59
  pub prefix : prefix_of state < 2 ^ 62
  pub counts : CountsBelow (2 ^ 31) rows

-- What holds of each replica: it is one of its members, its parts begin at one slot, a flight stands at the first slot that isn't
-- learned, the highest count of its launch table is known, and each open row there and at the base has a cursor.
pub record IsWhole (core : Core) : Type 0 where
  pub me : core.me < core.members
  pub few : core.members ≤ 7
  pub base : core.learner.base ≡ core.acceptor.base
  pub flies : FliesAt (learner.learned_prefix core.learner) core.term
  pub counts : core.high_count ≡ highest_count core.machine.rows
  pub cursors : OpenHaveCursors core.machine.rows
  pub base_cursors : OpenHaveCursors core.rows

-- a draft can be taken: it is steady, and has learned few entries
pub record IsDraftReady (table : Table) (core : Core) (draft : Draft) : Type 0 where
  pub steady : IsDraftSteady table core draft
  pub few : length draft.learnt.items < 2 ^ 31

-- so it can for each table of jobs, since it has no new base
abbrev pub IsReadyAnyhow : Core → Draft → Type 0
IsReadyAnyhow core draft = (table : Table) → IsDraftReady table core draft

-- A leader without a flight, by the votes that bind it, before it has done anything in a step.
pub record IsFreeToPropose (core : Core) (draft : Draft) (ballot : ℕ) (best : List Vote) : Type 0 where
  pub idle : IsUntouched core draft
  pub whole : IsWhole core
  pub small : IsSmall (state_of core) core.machine.rows
  pub leads : core.term ≡ Leader ballot best None
  pub rise : SlotsRise best
