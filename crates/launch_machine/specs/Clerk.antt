-- What the entries of the log do to the launch table: one clerk, who goes over one list.
use Rattle.std.specs.Prelude.{◌≡◌, ◌⊎◌, ⊤, ℕ, suc, ◌+◌, ◌<◌, nat_lt, if◌then◌else◌, List, [], ◌∷◌, Option, None, Some, false, ℤ, ◌≤ℤ◌, length, slice_get, slice_set, slice_index_or}
use Rattle.std.specs.Int.{int_max}
use Rattle.paxos_base.specs.declared.entry.Entry.{Entry}
use Rattle.paxos_base.specs.declared.entry.Entry.TheVariants.{Noop, Start, End, Table as TableEntry}
use Rattle.paxos_base.specs.declared.entry.Kind.{Kind}
use Rattle.paxos_base.specs.declared.entry.Kind.TheVariants.{Launch, Void}
use Rattle.paxos_base.specs.declared.rows.JobRow.{JobRow}
use Rattle.paxos_base.specs.declared.rows.TableSize.{TableSize}
use Rattle.paxos_base.specs.Rows.{fresh_row, fresh_rows, row_count}
use Rattle.due_set.specs.Anacron.{IsJobOpen}
use Rattle.due_set.specs.Table.{Table, IsNextDue, is_by_period, version_count, version_from}
use Rattle.launch_machine.specs.declared.force.InForce.{InForce}

-- how many jobs the table has, and its last version
abbrev pub table_size : Table → TableSize
table_size table = record { jobs = length table.jobs; last_version = length table.later }

-- the launch table at first: a fresh row for each job, and the table's own
abbrev pub first_rows : Table → List JobRow
first_rows table = fresh_rows (row_count (table_size table))

-- what the table's own row says of the version that is in force
abbrev pub force_of : JobRow → InForce
force_of row = record { version = row.launched; since = row.cursor }

-- the version of the table that is in force by the rows, and since when
abbrev pub in_force : Table → List JobRow → InForce
in_force table rows = force_of (slice_index_or rows (length table.jobs) (fresh_row (length table.jobs)))

-- at first the first version is in force, since no instant
abbrev pub first_force : InForce
first_force = record { version = 0; since = None }

-- the version that comes next, where the table has one
abbrev pub next_version : Table → List JobRow → Option ℕ
next_version table rows =
    if nat_lt (suc (in_force table rows).version) (version_count table) then Some (suc (in_force table rows).version) else None

-- the later of two instants, where there are any
abbrev pub later_of : Option ℤ → Option ℤ → Option ℤ
later_of instant None = instant
later_of None (Some other) = Some other
later_of (Some instant) (Some other) = Some (int_max instant other)

-- By the version that is in force the launch is the job's first due instant that is later than its last and than since when that
-- version is, and has come; of a job that runs by its period, it is a date on which it may open now.
abbrev pub MayStart : Table → InForce → ℕ → JobRow → ℤ → ℤ → Type 0
MayStart table force job row at now =
    (IsNextDue table force.version job (later_of row.cursor force.since) at × (at ≤ℤ now))
    ⊎ IsJobOpen table force.version job row.last row.cursor now at

-- a start takes effect: its job is in the table and idle, and its launch may be started
pub record TakesStart (table : Table) (rows : List JobRow) (job : ℕ) (at now : ℤ) : Type 0 where
  pub known : job < length table.jobs
  pub row : JobRow
  pub is_row : slice_get rows job ≡ Some row
  pub idle : row.open_now ≡ None
  pub may : MayStart table (in_force table rows) job row at now

-- an end takes effect: its job is in the table and open at its instant or on its date
pub record TakesEnd (rows : List JobRow) (job : ℕ) (at : ℤ) : Type 0 where
  pub row : JobRow
  pub is_row : slice_get rows job ≡ Some row
  pub since : ℤ
  pub is_open : row.open_now ≡ Some since
  pub cursor : row.cursor ≡ Some at

-- no start would take effect
abbrev pub NoStart : Table → List JobRow → ℤ → Type 0
NoStart table rows now = (job : ℕ) (at : ℤ) → TakesStart table rows job at now → ⊥

-- no later than the instant, where there is one
abbrev pub IsBy : ℤ → Option ℤ → Type 0
IsBy now None = ⊤
IsBy now (Some instant) = instant ≤ℤ now

-- the row is closed, and a launch of its job, if that runs by its due instants, isn't later
pub record IsEndedRow (table : Table) (now : ℤ) (job : ℕ) (row : JobRow) : Type 0 where
  pub closed : row.open_now ≡ None
  pub passed : job < length table.jobs → is_by_period table job ≡ false → IsBy now row.cursor

-- no launch is open, and of the jobs that run by their due instants none was started on a later one
abbrev pub AreEndedBy : Table → List JobRow → ℤ → Type 0
AreEndedBy table rows now = (job : ℕ) (row : JobRow) → slice_get rows job ≡ Some row → IsEndedRow table now job row

-- A version takes effect: it is the next one that the table has, and its instant has come; it comes no sooner than the version before
-- it, and than each launch of a job that runs by its due instants; no launch is open, and none may be started then. The table's own
-- row, which takes it down, is there.
pub record TakesTable (table : Table) (rows : List JobRow) (version : ℕ) (now : ℤ) : Type 0 where
  pub own : length table.jobs < length rows
  pub next : version ≡ suc (in_force table rows).version
  pub known : version < version_count table
  pub come : version_from table version ≤ℤ now
  pub since : IsBy now (in_force table rows).since
  pub ended : AreEndedBy table rows now
  pub no_start : NoStart table rows now

-- no version would be adopted
abbrev pub NoTable : Table → List JobRow → ℤ → Type 0
NoTable table rows now = (version : ℕ) → TakesTable table rows version now → ⊥

-- an entry takes effect; a no-op never does
abbrev pub TakesEffect : Table → List JobRow → Entry → Type 0
TakesEffect table rows Noop = ⊥
TakesEffect table rows (Start job at now) = TakesStart table rows job at now
TakesEffect table rows (End job at kind) = TakesEnd rows job at
TakesEffect table rows (TableEntry version now) = TakesTable table rows version now

-- a row that a start opens
abbrev pub opened_row : ℤ → ℤ → JobRow → JobRow
opened_row at now row = record row { cursor = Some at; open_now = Some now }

-- a row that an end closes: a launch is counted and remembered, a void is counted
abbrev pub closed_row : ℤ → Kind → JobRow → JobRow
closed_row at Launch row = record row { open_now = None; last = Some at; launched = row.launched + 1 }
closed_row at Void row = record row { open_now = None; voided = row.voided + 1 }

-- the table's own row once a version is adopted
abbrev pub adopted_row : ℕ → ℤ → JobRow → JobRow
adopted_row version now row = record row { cursor = Some now; launched = version }

-- the rows with one of them changed
abbrev pub with_row : (JobRow → JobRow) → List JobRow → ℕ → List JobRow
with_row change rows job = slice_set rows job (change (slice_index_or rows job (fresh_row job)))

-- the rows after an entry that takes effect
abbrev pub rows_after : Table → List JobRow → Entry → List JobRow
rows_after table rows Noop = rows
rows_after table rows (Start job at now) = with_row (opened_row at now) rows job
rows_after table rows (End job at kind) = with_row (closed_row at kind) rows job
rows_after table rows (TableEntry version now) = with_row (adopted_row version now) rows (length table.jobs)

-- one entry: where it takes no effect, it changes nothing
abbrev pub Applies : Table → List JobRow → Entry → List JobRow → Type 0
Applies table old entry new =
    (TakesEffect table old entry × (new ≡ rows_after table old entry)) ⊎ ((TakesEffect table old entry → ⊥) × (new ≡ old))

-- entries, one after another
abbrev pub AppliesAll : Table → List JobRow → List Entry → List JobRow → Type 0
AppliesAll table old [] new = new ≡ old
AppliesAll table old (entry ∷ entries) new =
    (middle : List JobRow) × Applies table old entry middle × AppliesAll table middle entries new

-- the launch table of a list of entries
abbrev pub IsClerkOf : Table → List Entry → List JobRow → Type 0
IsClerkOf table entries rows = AppliesAll table (first_rows table) entries rows
