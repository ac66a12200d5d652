-- How a walk goes on, in a world.
use Rattle.std.specs.Prelude.{◌≡◌, ℕ, ◌<◌, ◌≤◌, List, ◌++◌, length, ℤ, pos, None, Some, slice_get}
use Rattle.due_set.specs.Table.{Table}
use Rattle.history.specs.Book.{Row}
use Rattle.launch_machine.specs.Clerk.{NoStart, NoTable}
use Rattle.paxos_base.specs.declared.rows.JobRow.{JobRow}
use Rattle.script_semantics.specs.Settling.{AsksNothing, WalksOn}
use Rattle.script_semantics.specs.Situation.{Situation}
use Rattle.step_spec.specs.State.{State}

-- no job has a launch open
abbrev pub IsNoneOpen : Table → List JobRow → Type 0
IsNoneOpen table rows = (job : ℕ) (row : JobRow) → job < length table.jobs → slice_get rows job ≡ Some row → row.open_now ≡ None

-- at each of the minutes from one on, and before another, no start would take effect
abbrev pub NoStartIn : Table → (first end : ℕ) → List JobRow → Type 0
NoStartIn table first end rows = (minute : ℕ) → first ≤ minute → minute < end → NoStart table rows (pos minute)

-- at each of them no version would be adopted
abbrev pub NoTableIn : Table → (first end : ℕ) → List JobRow → Type 0
NoTableIn table first end rows = (minute : ℕ) → first ≤ minute → minute < end → NoTable table rows (pos minute)

-- at each of the minutes from one on, and before another, the launch table asks for nothing
abbrev pub AsksNothingIn : Table → (first end : ℕ) → State → Type 0
AsksNothingIn table first end state = (minute : ℕ) → first ≤ minute → minute < end → AsksNothing table (pos minute) state

-- **What has come belongs to a walk**, of which the last drain was at the minute above: however the walk goes on from here, so it goes on
-- from the start.
abbrev pub WalkedOn : ℕ → Table → (who : ℕ) → (at above to : ℤ) → Situation → List Row → Situation → Type 0
WalkedOn members table who at above to start rows here =
    (more : List Row) (after : Situation) → WalksOn members table who above to here more after → WalksOn members table who at to start (rows ++ more) after
