-- How high the counts of a launch table are.
use Rattle.std.specs.Prelude.{ℕ, List, [], ◌∷◌, length, max, slice_index_or}
use Rattle.paxos_base.specs.Rows.{fresh_row}
use Rattle.paxos_base.specs.declared.entry.Entry.{Entry}
use Rattle.paxos_base.specs.declared.entry.Entry.TheVariants.{End, Table as TableEntry}
use Rattle.paxos_base.specs.declared.rows.JobRow.{JobRow}
use Rattle.due_set.specs.Table.{Table}

-- how many launches of a job were made, or how many were void, whichever is more
abbrev pub count_of : JobRow → ℕ
count_of row = max row.launched row.voided

-- the highest count of the rows
abbrev pub highest_count : List JobRow → ℕ
highest_count [] = 0
highest_count (row ∷ rows) = max (count_of row) (highest_count rows)

-- the count of the row of which an entry may raise it: that of the job that it ends, or of the table's own row where it adopts a
-- version; or 0
abbrev pub count_raised : Table → List JobRow → Entry → ℕ
count_raised table rows (End job at kind) = count_of (slice_index_or rows job (fresh_row job))
count_raised table rows (TableEntry version now) = count_of (slice_index_or rows (length table.jobs) (fresh_row (length table.jobs)))
count_raised table rows entry = 0
