-- How an operation of the writer changes what readers are shown.
use Rattle.std.specs.Prelude.{ℕ, ◌==◌, List, if◌then◌else◌, length, slice_set, Option, None, Some}
use Rattle.paxos_base.specs.declared.entry.Entry.{Entry}
use Rattle.paxos_base.specs.declared.entry.Entry.TheVariants.{Noop, Start, End, Table as TableEntry}
use Rattle.paxos_base.specs.declared.rows.JobRow.{JobRow}
use Rattle.due_set.specs.Table.{Table}
use Rattle.status_board.specs.declared.change.Change.{Change}
use Rattle.status_board.specs.declared.change.NewRows.{NewRows}
use Rattle.status_board.specs.declared.change.NewRows.TheVariants.{Same, One, All}
use Rattle.status_board.specs.Posted.{Posted}

-- the number of the row that an entry may change: its job's, or that of the table's own row, behind those of the jobs
abbrev pub row_changed_by : Table → Entry → Option ℕ
row_changed_by table Noop = None
row_changed_by table (TableEntry version now) = Some (length table.jobs)
row_changed_by table (Start job at now) = Some job
row_changed_by table (End job at kind) = Some job

-- the rows with the new ones in their places
abbrev pub with_new : NewRows → List JobRow → List JobRow
with_new Same rows = rows
with_new (One row) rows = slice_set rows row.job row
with_new (All all) rows = if length all.items == length rows then all.items else rows

-- what is shown after an operation
abbrev pub changed : Posted → Change → Posted
changed posted change = record {
  board = change.past.book;
  states = change.past.log;
  prefix = change.prefix;
  rows = with_new change.rows posted.rows;
}
