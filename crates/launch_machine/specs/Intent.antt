-- What a leader does next: call the first launch that may be called, or else start the first that is due.
use Rattle.std.specs.Prelude.{◌≡◌, ℕ, ◌<◌, List, length, Some, ℤ, slice_get}
use Rattle.jiff.specs.Types.{TimeZone}
use Rattle.paxos_base.specs.declared.rows.JobRow.{JobRow}
use Rattle.due_set.specs.Table.{Table, Job, IsJobIn}
use Rattle.due_set.specs.Calls.{HasCome}
use Rattle.launch_machine.specs.Clerk.{TakesStart, in_force}

-- the job is in the table, its launch is open, and by the version in force its instant or its date has come
pub record MayCall (table : Table) (rows : List JobRow) (job : ℕ) (at now : ℤ) : Type 0 where
  pub known : job < length table.jobs
  pub row : JobRow
  pub is_row : slice_get rows job ≡ Some row
  pub since : ℤ
  pub is_open : row.open_now ≡ Some since
  pub cursor : row.cursor ≡ Some at
  pub spec : Job
  pub zone : TimeZone
  pub is_in : IsJobIn table (in_force table rows).version job spec zone
  pub come : HasCome spec.kind zone at now

-- no launch may be called
abbrev pub NoCall : Table → List JobRow → ℤ → Type 0
NoCall table rows now = (job : ℕ) (at : ℤ) → MayCall table rows job at now → ⊥

-- the first job, in the table's order, whose launch may be called
pub record IsFirstCall (table : Table) (rows : List JobRow) (now : ℤ) (job : ℕ) (at : ℤ) : Type 0 where
  pub may : MayCall table rows job at now
  pub first : (before : ℕ) (other : ℤ) → before < job → MayCall table rows before other now → ⊥

-- the first job, in the table's order, whose start would take effect
pub record IsFirstStart (table : Table) (rows : List JobRow) (now : ℤ) (job : ℕ) (at : ℤ) : Type 0 where
  pub takes : TakesStart table rows job at now
  pub first : (before : ℕ) (other : ℤ) → before < job → TakesStart table rows before other now → ⊥
