-- What a board shows of a part: launch tables that a replica has directly after its turns.
use Rattle.std.specs.Prelude.{◌≡◌, ◌⊎◌, ℕ, ◌<◌, ◌≤◌, max, true, List, [], ◌∷◌, ◌++◌, length, take, Option, None, Some, Contains, if◌then◌else◌, slice_get, ⊤}
use Rattle.std.specs.List.{fold}
use Rattle.due_set.specs.Table.{Table}
use Rattle.launch_machine.specs.Clerk.{IsClerkOf}
use Rattle.launch_machine.specs.Machine.{StandsFor}
use Rattle.paxos_base.specs.declared.entry.Entry.{Entry}
use Rattle.paxos_base.specs.declared.rows.JobRow.{JobRow}
use Rattle.step_spec.specs.State.{prefix_of}
use Rattle.agreement.specs.Log.{IsLog}
use Rattle.history.specs.Book.{Row, turn_of, votes_in}
use Rattle.replica_core.specs.Replica.{ReplicaState}
use Rattle.script_semantics.specs.Free.{after_posted, is_turn_of}
use Rattle.script_semantics.specs.Others.{AreOthers}
use Rattle.script_semantics.specs.Situation.{Situation}
use Rattle.status_board.specs.Writing.{HasNext, Writing}
use Rattle.status_board.specs.declared.shown.Shown.{Shown}
use Rattle.world_law.specs.declared.row.BookRow.{BookRow}
use Rattle.world_free.specs.Plan.{ArePlayed, FreePlan, Seat, SharedBook}
use Rattle.world_free.specs.Seats.{IsSeatAt, rows_by}
use Rattle.world_free.specs.declared.job.FreeJob.{FreeJob}

-- ---- the log

-- the rows are those of the clerk who has gone over the first entries of the log, as many as the prefix says
pub record IsOfLog (table : Table) (log : List Entry) (prefix : ℕ) (rows : List JobRow) : Type 0 where
  pub short : prefix ≤ length log
  pub clerk : IsClerkOf table (take prefix log) rows

-- so they are of the log of this book
abbrev pub IsOfBook : (members : ℕ) → Table → (book : List Row) → (prefix : ℕ) → List JobRow → Type 0
IsOfBook members table book prefix rows = (log : List Entry) → IsLog members (votes_in book) log → IsOfLog table log prefix rows

-- ---- the highest prefix

-- the situation, and the highest prefix so far
pub record Reach : Type 0 where
  pub here : Situation
  pub highest : ℕ

-- a row later: a turn of the replica counts, with the prefix that the replica has directly after it
abbrev pub reach_after_row : (members who : ℕ) → Reach → Row → Reach
reach_after_row members who reach row =
    if is_turn_of who row.turn
    then record {
      here = after_posted members reach.here row;
      highest = max reach.highest (prefix_of ((after_posted members reach.here row).standing.replicas who));
    }
    else record reach { here = after_posted members reach.here row }

-- the greater of a prefix and the greatest that the replica has had after one of its turns among these
abbrev pub highest_after : (members who : ℕ) → (first : ℕ) → Situation → List Row → ℕ
highest_after members who first situation rows = (fold (reach_after_row members who) (record { here = situation; highest = first }) rows).highest

-- ---- the writer of a board

-- The writer is one of a board for the table, and has published the state that it has; it may be called on.
pub record MayShow (table : Table) (writer : Writing) : Type 0 where
  pub stands : StandsFor table writer.machine
  pub ready : writer.ready ≡ true
  pub published : writer.published ≡ writer.states

-- it has shown what a replica has learned, where that was more than it showed
pub record ShowsReplica (replica : ReplicaState) (old new : Writing) : Type 0 where
  pub board : new.board ≡ old.board
  pub shows : ((prefix_of replica.state ≤ old.prefix) × (new ≡ old))
      ⊎ ((old.prefix < prefix_of replica.state) × HasNext old new (prefix_of replica.state) replica.machine.rows)

-- **What the writer has shown of a part**, which has these rows after those with which it began: each state that it has published has
-- the rows of the clerk who goes over the first entries of the log, as many as its prefix says. The last prefix is the greatest that the
-- replica had after a turn of the part, or the one that was there; and where the writer's rows were the clerk's, they are.
pub record ShowsPart (members who : ℕ) (table : Table) (situation : Situation) (begun more : List Row) (old new : Writing) : Type 0 where
  pub board : new.board ≡ old.board
  pub added : List Shown
  pub states : new.states ≡ old.states ++ added
  pub each : (state : Shown) → Contains added state → IsOfBook members table (begun ++ more) state.prefix state.rows
  pub highest : new.prefix ≡ highest_after members who old.prefix situation more
  pub last : IsOfBook members table begun old.prefix old.machine.rows → IsOfBook members table (begun ++ more) new.prefix new.machine.rows

-- ---- where there may be no board

-- where there is a writer it may show
abbrev pub MayShowOn : Table → Option Writing → Type 0
MayShowOn table None = ⊤
MayShowOn table (Some writer) = MayShow table writer

-- there is a writer behind a part where there was one before it, and this holds of the two
abbrev pub OnBoard : (Writing → Writing → Type 0) → Option Writing → Option Writing → Type 0
OnBoard holds None None = ⊤
OnBoard holds None (Some new) = ⊥
OnBoard holds (Some old) None = ⊥
OnBoard holds (Some old) (Some new) = holds old new

-- ---- what a thread has shown

-- what the writer has shown of the rows that a seat has seen, whichever rows of the part have what these have
abbrev pub HasShown : FreePlan → SharedBook → (who : ℕ) → Seat → (old new : Writing) → Type 0
HasShown plan book who seat old new =
    (after : List BookRow) (begun more : List Row) → IsSeatAt book who after seat → ArePlayed plan after begun more
    → ShowsPart plan.book.members who plan.table plan.situation begun more old new

-- behind rows that a seat had seen it has seen one of its own, and those of others before that
pub record HasTurnMore (book : SharedBook) (who : ℕ) (after : List BookRow) (seat : Seat) : Type 0 where
  pub gone : List BookRow
  pub others : rows_by who gone ≡ []
  pub row : BookRow
  pub mine : turn_of row.turn ≡ Some who
  pub at : IsSeatAt book who ((after ++ gone) ++ row ∷ []) seat

-- a seat has taken one turn
abbrev pub TakesOneTurn : SharedBook → (who : ℕ) → (old new : Seat) → Type 0
TakesOneTurn book who old new = (after : List BookRow) → IsSeatAt book who after old → HasTurnMore book who after new

-- rows that have what a seat has seen, and behind them rows of others
pub record HasSeenFront (plan : FreePlan) (who : ℕ) (after : List BookRow) (begun more : List Row) : Type 0 where
  pub one : List Row
  pub other : List Row
  pub parts : more ≡ one ++ other
  pub first : ArePlayed plan after begun one
  pub others : AreOthers who other

-- so it is of the seat of each job
abbrev pub HaveSeen : {D : Type 0} → FreePlan → SharedBook → (begun more : List Row) → List (FreeJob D) → Type 0
HaveSeen {D = D} plan book begun more jobs =
    (who : ℕ) (job : FreeJob D) (after : List BookRow) → slice_get jobs who ≡ Some job → IsSeatAt book who after job.seat
    → HasSeenFront plan who after begun more
