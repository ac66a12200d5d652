-- What a launch table has counted: one more at most by each entry.
use Rattle.std.proofs.Common.{◌≡◌, ℕ, zero, suc, ◌+◌, ◌<◌, ◌≤◌, inl, inr, List, [], ◌∷◌, length, map, get_or, arith, ℤ}
use Rattle.std.specs.List.{All, Contains, range_with_len}
use Rattle.std.proofs.lemmas.List.Elements.{All-set, All-contains, All-cons}
use Rattle.paxos_base.specs.Rows.{fresh_row, row_count}
use Rattle.paxos_base.specs.declared.entry.Entry.{Entry}
use Rattle.paxos_base.specs.declared.entry.Entry.TheVariants.{Noop, Start, End, Table as TableEntry}
use Rattle.paxos_base.specs.declared.entry.Kind.{Kind}
use Rattle.paxos_base.specs.declared.entry.Kind.TheVariants.{Launch, Void}
use Rattle.paxos_base.specs.declared.rows.JobRow.{JobRow}
use Rattle.due_set.specs.Table.{Table}
use Rattle.launch_machine.specs.Clerk.{Applies, AppliesAll, adopted_row, closed_row, first_rows, opened_row, table_size}
use Rattle.history.specs.Numbers.{AreRowsBelow, AreRowsWithin}
use Rattle.due_set.proofs.Rising.{Contains-head as in_first, Contains-tail as in_rest}

-- what holds of each that is in a list
pub all_in : {X : Type 0} (P : X → Type 0) (xs : List X) → ((x : X) → Contains xs x → P x) → All P xs
all_in P [] each = λ k d within. absurd (omega (arith, within))
all_in P (x ∷ xs) each = All-cons P x xs (each x (in_first x xs)) (all_in P xs (λ y has. each y (in_rest x xs y has)))

-- the counts of a row are at most this
abbrev CountsWithin : ℕ → JobRow → Type 0
CountsWithin most row = (row.launched ≤ most) × (row.voided ≤ most)

pub rows_more : (most more : ℕ) (rows : List JobRow) → most ≤ more → AreRowsWithin most rows → AreRowsWithin more rows
rows_more most more rows up within = all_in (CountsWithin more) rows (λ row has.
    let low : CountsWithin most row = All-contains (CountsWithin most) rows row within has in (omega (arith, low.0, up), omega (arith, low.1, up)))

pub rows_below : (limit more : ℕ) (rows : List JobRow) → limit ≤ more → AreRowsBelow limit rows → AreRowsBelow more rows
rows_below limit more rows up below = all_in (λ row. (row.launched < more) × (row.voided < more)) rows (λ row has.
    let low : (row.launched < limit) × (row.voided < limit) = All-contains (λ row. (row.launched < limit) × (row.voided < limit)) rows row below has in
    (omega (arith, low.0, up), omega (arith, low.1, up)))

closed_within : (most : ℕ) (at : ℤ) (kind : Kind) (row : JobRow) → CountsWithin most row → CountsWithin (most + 1) (closed_row at kind row)
closed_within most at Launch row (launched, voided) = (omega (arith, launched), omega (arith, voided))
closed_within most at Void row (launched, voided) = (omega (arith, launched), omega (arith, voided))

-- the row that a change is made of
row_at : (most : ℕ) (rows : List JobRow) (job : ℕ) (else_row : JobRow) → CountsWithin most else_row → AreRowsWithin most rows → CountsWithin most (get_or rows job else_row)
row_at most [] job else_row low within = low
row_at most (row ∷ rows) zero else_row low within = All-contains (CountsWithin most) (row ∷ rows) row within (in_first row rows)
row_at most (row ∷ rows) (suc job) else_row low within =
    row_at most rows job else_row low (all_in (CountsWithin most) rows (λ other has. All-contains (CountsWithin most) (row ∷ rows) other within (in_rest row rows other has)))

row_within : (most : ℕ) (rows : List JobRow) (job : ℕ) → AreRowsWithin most rows → CountsWithin most (get_or rows job (fresh_row job))
row_within most rows job within = row_at most rows job (fresh_row job) (omega arith, omega arith) within

after_within : (table : Table) (most : ℕ) (rows : List JobRow) (entry : Entry) (middle : List JobRow) → AreRowsWithin most rows → Applies table rows entry middle → AreRowsWithin (most + 1) middle
after_within table most rows Noop middle within (inl (takes, is)) = absurd takes
after_within table most rows (TableEntry version now) middle within (inl (takes, is)) =
    let own : ℕ = length table.jobs in
    let old = row_within most rows own within in
    let new : CountsWithin (most + 1) (adopted_row version now (get_or rows own (fresh_row own))) = (omega (arith, old.0, takes.next), omega (arith, old.1)) in
    rw is (All-set (CountsWithin (most + 1)) rows own (adopted_row version now (get_or rows own (fresh_row own))) new (rows_more most (most + 1) rows (omega arith) within))
after_within table most rows (Start job at now) middle within (inl (takes, is)) =
    let up = rows_more most (most + 1) rows (omega arith) within in
    rw is (All-set (CountsWithin (most + 1)) rows job (opened_row at now (get_or rows job (fresh_row job))) (row_within (most + 1) rows job up) up)
after_within table most rows (End job at kind) middle within (inl (takes, is)) =
    rw is (All-set (CountsWithin (most + 1)) rows job (closed_row at kind (get_or rows job (fresh_row job))) (closed_within most at kind _ (row_within most rows job within)) (rows_more most (most + 1) rows (omega arith) within))
after_within table most rows entry middle within (inr (none, is)) = rw is (rows_more most (most + 1) rows (omega arith) within)

pub applied_within : (table : Table) (most : ℕ) (rows : List JobRow) (entries : List Entry) (last : List JobRow) → AreRowsWithin most rows → AppliesAll table rows entries last → AreRowsWithin (most + length entries) last
applied_within table most rows [] last within is = rw is (rows_more most (most + 0) rows (omega arith) within)
applied_within table most rows (entry ∷ entries) last within (middle, applies, rest) =
    let at : most + 1 + length entries ≡ most + suc (length entries) = omega arith in
    rw at at (applied_within table (most + 1) middle entries last (after_within table most rows entry middle within applies) rest)

none_within : (from count : ℕ) → AreRowsWithin 0 (map fresh_row (range_with_len from count))
none_within from zero = λ k d within. absurd (omega (arith, within))
none_within from (suc count) = All-cons (CountsWithin 0) (fresh_row from) (map fresh_row (range_with_len (from + 1) count)) (omega arith, omega arith) (none_within (from + 1) count)

pub first_within : (table : Table) → AreRowsWithin 0 (first_rows table)
first_within table = none_within 0 (row_count (table_size table))
