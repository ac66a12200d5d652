-- Rows of the launch table.
use Rattle.std.specs.Prelude.{◌≡◌, ℕ, ◌+◌, ◌==◌, ◌&&◌, nat_le, not, true, Bool, List, length, map, slice_get, None, Some, IsSome, is_some, All, if◌then◌else◌}
use Rattle.std.specs.List.{range_with_len}
use Rattle.paxos_base.specs.declared.rows.JobRow.{JobRow}
use Rattle.paxos_base.specs.declared.rows.TableSize.{TableSize}

-- a row with a launch that is open has a cursor
abbrev pub OpenHasCursor : JobRow → Type 0
OpenHasCursor row = IsSome row.open_now → IsSome row.cursor

-- each open row has a cursor
abbrev pub OpenHaveCursors : List JobRow → Type 0
OpenHaveCursors rows = All OpenHasCursor rows

-- there are so many rows, each at its job's number
pub record AreNumbered (rows : List JobRow) (total : ℕ) : Type 0 where
  pub count : length rows ≡ total
  pub in_order : (k : ℕ) (row : JobRow) → slice_get rows k ≡ Some row → row.job ≡ k

-- how many rows the launch table of a table of this size has: one for each job, and behind them the table's own
abbrev pub row_count : TableSize → ℕ
row_count size = size.jobs + 1

-- A row may be the table's own, where this is the last version: no launch is open in it, none was launched and none is void;
-- its `launched` is a version, and it has a cursor, the minute since when that version is in force, but for version 0.
abbrev pub is_table_row : ℕ → JobRow → Bool
is_table_row last_version row =
    not (is_some row.open_now) && (not (is_some row.last) && ((row.voided == 0)
    && (nat_le row.launched last_version && (if row.launched == 0 then not (is_some row.cursor) else is_some row.cursor))))

-- the row may stand in a table of this size: where its number is behind those of the jobs, it is the table's own
abbrev pub fits_table : TableSize → JobRow → Bool
fits_table size row = if row.job == size.jobs then is_table_row size.last_version row else true

-- the row behind those of the jobs is the table's own
abbrev pub EndsWithTable : List JobRow → TableSize → Type 0
EndsWithTable rows size = (row : JobRow) → slice_get rows size.jobs ≡ Some row → is_table_row size.last_version row ≡ true

-- **The rows are those of a table of this size**: one for each job, in the order of their numbers, and behind them the table's.
pub record RowsStand (rows : List JobRow) (size : TableSize) : Type 0 where
  pub numbered : AreNumbered rows (row_count size)
  pub ends : EndsWithTable rows size

-- the row of a job of which nothing was heard
abbrev pub fresh_row : ℕ → JobRow
fresh_row job = record { job = job; cursor = None; open_now = None; last = None; launched = 0; voided = 0 }

-- the launch table at first: a fresh row for each of so many jobs
abbrev pub fresh_rows : ℕ → List JobRow
fresh_rows jobs = map fresh_row (range_with_len 0 jobs)
