-- What a machine keeps: the launch table, and beside each row when its job may be started, or its launch called.
use Rattle.std.specs.Prelude.{◌≡◌, All, ℕ, ◌+◌, ◌<◌, ◌≤◌, ◌^◌, List, length, Option, None, Some, false, ℤ, ◌≤ℤ◌, IfSome, slice_get, ⊤}
use Rattle.jiff.specs.Types.{TimeZone}
use Rattle.zone_minutes.specs.Window.{IsInWindow}
use Rattle.paxos_base.specs.Rows.{RowsStand}
use Rattle.paxos_base.specs.declared.entry.Entry.{Entry}
use Rattle.paxos_base.specs.declared.entry.Entry.TheVariants.{Noop, Start, End, Table as TableEntry}
use Rattle.paxos_base.specs.declared.rows.JobRow.{JobRow}
use Rattle.due_set.specs.Calls.{HasCome}
use Rattle.due_set.specs.Table.{Job, Table, IsJobIn}
use Rattle.min_tree.specs.Least.{IsAtMost}
use Rattle.launch_machine.specs.Clerk.{MayStart, in_force, table_size}
use Rattle.launch_machine.specs.declared.force.InForce.{InForce}

-- the rows of the launch table; beside each the first instant at which its job may be started, and one before which its launch
-- isn't called
pub record Launches : Type 0 where
  pub rows : List JobRow
  pub starts : List (Option ℤ)
  pub calls : List (Option ℤ)

-- the first instant at which a launch of the row's job may be started
pub record IsFirstToStart (table : Table) (force : InForce) (job : ℕ) (row : JobRow) (first : ℤ) : Type 0 where
  pub at : ℤ
  pub may : MayStart table force job row at first
  pub least : (other now : ℤ) → MayStart table force job row other now → first ≤ℤ now

-- the same, or that there is none
abbrev pub IsFirstStartOf : Table → InForce → ℕ → JobRow → Option ℤ → Type 0
IsFirstStartOf table force job row None = (at now : ℤ) → MayStart table force job row at now → ⊥
IsFirstStartOf table force job row (Some first) = IsFirstToStart table force job row first

-- what stands beside a row: while its launch is open, nothing; nor beside the table's own
pub record IsStartBeside (table : Table) (force : InForce) (job : ℕ) (row : JobRow) (start : Option ℤ) : Type 0 where
  pub own : length table.jobs ≤ job → start ≡ None
  pub opened : (since : ℤ) → row.open_now ≡ Some since → start ≡ None
  pub idle : job < length table.jobs → row.open_now ≡ None → IsFirstStartOf table force job row start

-- beside each row stands a value, of which this holds
pub record AreBeside (holds : ℕ → JobRow → Option ℤ → Type 0) (rows : List JobRow) (values : List (Option ℤ)) : Type 0 where
  pub count : length values ≡ length rows
  pub each : (job : ℕ) (row : JobRow) (value : Option ℤ) → slice_get rows job ≡ Some row → slice_get values job ≡ Some value → holds job row value

-- beside each row stands when its job may be started
abbrev pub AreNextStarts : Table → List JobRow → List (Option ℤ) → Type 0
AreNextStarts table rows starts = AreBeside (IsStartBeside table (in_force table rows)) rows starts

-- at an instant of the window at which the row's launch may be called, the one that stands beside it has come
abbrev pub IsCallBeside : Table → InForce → ℕ → JobRow → Option ℤ → Type 0
IsCallBeside table force job row call =
    (at now since : ℤ) (spec : Job) (zone : TimeZone) → job < length table.jobs → IsInWindow table.window now → row.open_now ≡ Some since → row.cursor ≡ Some at
    → IsJobIn table force.version job spec zone → HasCome spec.kind zone at now → IsAtMost now call

-- beside each row stands an instant before which its launch isn't called
abbrev pub AreCalls : Table → List JobRow → List (Option ℤ) → Type 0
AreCalls table rows calls = AreBeside (IsCallBeside table (in_force table rows)) rows calls

-- the machine is one of this table
pub record StandsFor (table : Table) (machine : Launches) : Type 0 where
  pub rows : RowsStand machine.rows (table_size table)
  pub starts : AreNextStarts table machine.rows machine.starts
  pub calls : AreCalls table machine.rows machine.calls

-- the row's counts can rise
abbrev pub CanRise : List JobRow → ℕ → Type 0
CanRise rows job = IfSome (slice_get rows job) (λ row. (row.launched + 1 < 2 ^ 32) × (row.voided + 1 < 2 ^ 32))

-- the entry's count can rise
abbrev pub CanCount : List JobRow → Entry → Type 0
CanCount rows Noop = ⊤
CanCount rows (Start job at now) = ⊤
CanCount rows (End job at kind) = CanRise rows job
CanCount rows (TableEntry version now) = ⊤

-- each count of the rows is below this
abbrev pub CountsBelow : ℕ → List JobRow → Type 0
CountsBelow limit rows = All (λ row. (row.launched < limit) × (row.voided < limit)) rows
