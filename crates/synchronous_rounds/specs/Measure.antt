-- How far a leader is from being idle: a number of its replica and of whether an answer waits for it.
use Rattle.std.specs.Prelude.{ℕ, zero, suc, ◌+◌, ◌-◌, ◌*◌, ◌<◌, List, [], ◌∷◌, length, Option, None, Some, ℤ, ◌-ℤ◌, unsigned_abs, if◌then◌else◌}
use Rattle.paxos_base.specs.declared.entry.Vote.{Vote}
use Rattle.paxos_base.specs.declared.rows.JobRow.{JobRow}
use Rattle.due_set.specs.Table.{Table}
use Rattle.launch_machine.specs.Clerk.{in_force}
use Rattle.cluster_sched.specs.declared.row.SchedRow.{SchedRow}
use Rattle.term_core.specs.declared.term.Term.{Term}
use Rattle.term_core.specs.declared.term.Term.TheVariants.{Leader}
use Rattle.step_spec.specs.Propose.{is_long}
use Rattle.step_spec.specs.State.{State, prefix_of}
use Rattle.step_spec.specs.Step.{IsLaunchTable}

-- ---- what may still be learned

-- the slots from one on up to each vote, counted for each vote anew
abbrev pub span : ℕ → List Vote → ℕ
span slot [] = 0
span slot (vote ∷ votes) = (vote.slot + 1 - slot) + span slot votes

-- how far a job's next launch may lie ahead, up to the window's end; a job that was never started has that whole way
abbrev pub ahead : ℤ → Option ℤ → ℕ
ahead until None = unsigned_abs until + 1
ahead until (Some at) = unsigned_abs (until -ℤ at)

-- one, where a launch is open
abbrev pub open_one : Option ℤ → ℕ
open_one None = 0
open_one (Some since) = 1

-- each later launch is to start and to end, and one that is open is to end
abbrev pub row_work : ℤ → JobRow → ℕ
row_work until row = 2 * ahead until row.cursor + open_one row.open_now

-- the rows of so many jobs together; a row behind them, as the table's own, counts no more than a launch that is open there
abbrev pub rows_work : ℤ → ℕ → List JobRow → ℕ
rows_work until jobs [] = 0
rows_work until zero (row ∷ rows) = open_one row.open_now + rows_work until zero rows
rows_work until (suc jobs) (row ∷ rows) = row_work until row + rows_work until jobs rows

-- the versions of the table that are to be adopted yet
abbrev pub versions_left : Table → List JobRow → ℕ
versions_left table rows = length table.later - (in_force table rows).version

-- what a launch table may still ask for
abbrev pub launch_work : Table → List JobRow → ℕ
launch_work table rows = rows_work table.window.until.0 (length table.jobs) rows + versions_left table rows

-- **The work** of a leader, more than it has entries to learn: what votes bind it to, and what its launch table may still ask for.
abbrev pub work : Table → List JobRow → List Vote → ℕ → ℕ
work table rows best prefix = span prefix best + launch_work table rows

-- ---- the rounds until the next entry

-- one, where the launch table is due to take the place of the entries below it
abbrev pub due_one : State → ℕ
due_one state = if is_long state then 1 else 0

-- the rounds until a leader learns its next entry, at most, where nothing else is due: with a flight, with an answer that waits,
-- or with nothing
abbrev pub wait_of : Option SchedRow → Term → ℕ
wait_of waits (Leader ballot best (Some flight)) = 3 - flight.waited
wait_of (Some row) (Leader ballot best None) = 4
wait_of None (Leader ballot best None) = 5
wait_of waits term = 0

-- **The measure**: the rounds that are left until the leader is idle, at most.
abbrev pub rounds_left : Table → List JobRow → List Vote → Option SchedRow → State → ℕ
rounds_left table rows best waits state =
    7 * work table rows best (prefix_of state) + (wait_of waits state.term + due_one state)

-- a leader, with its launch table and the answer that waits for it
pub record Reckoned : Type 0 where
  pub rows : List JobRow
  pub waits : Option SchedRow
  pub state : State

-- the second is nearer to being idle than the first, bound by the same votes; its rows are those of its launch table
pub record IsNearer (table : Table) (best : List Vote) (old new : Reckoned) : Type 0 where
  pub launch : IsLaunchTable table new.state new.rows
  pub nearer : rounds_left table new.rows best new.waits new.state < rounds_left table old.rows best old.waits old.state
