-- The launch table at first.
use Rattle.std.proofs.Common.{◌≡◌, ℕ, zero, suc, ◌+◌, Some, map, ap, sym, refl, true, leb, ◌∙◌, arith}
use Rattle.std.specs.Prelude.{slice_get}
use Rattle.std.specs.List.{range_with_len}
use Rattle.std.proofs.lemmas.List.FromFn.{length-map-range_with_len}
use Rattle.std.proofs.lemmas.Bool.{and_from, le-leb}
use Rattle.paxos_base.specs.declared.rows.JobRow.{JobRow}
use Rattle.paxos_base.specs.declared.rows.TableSize.{TableSize}
use Rattle.paxos_base.specs.Rows.{AreNumbered, RowsStand, fresh_row, fresh_rows, row_count}

fresh_at : (from count k : ℕ) (row : JobRow) → slice_get (map fresh_row (range_with_len from count)) k ≡ Some row → row.job ≡ from + k
fresh_at from zero k row is = cc
fresh_at from (suc count) zero row is =
    let same : fresh_row from ≡ row = cc in
    let job : from ≡ row.job = ap (λ (r : JobRow). r.job) same in
    omega (arith, job)
fresh_at from (suc count) (suc k) row is = let job : row.job ≡ from + 1 + k = fresh_at (from + 1) count k row is in omega (arith, job)

-- fresh rows are at their jobs' numbers
pub AreNumbered-fresh_rows : (count : ℕ) → AreNumbered (fresh_rows count) count
AreNumbered-fresh_rows count = record {
  count = length-map-range_with_len fresh_row 0 count;
  in_order = λ k row is. let job : row.job ≡ 0 + k = fresh_at 0 count k row is in omega (arith, job);
}

-- the fresh row at a place
pub fresh_there : (total k : ℕ) (row : JobRow) → slice_get (fresh_rows total) k ≡ Some row → row ≡ fresh_row k
fresh_there total k row is = same_from 0 total k row is ∙ ap fresh_row (omega arith)
  where
    same_from : (from count k : ℕ) (row : JobRow) → slice_get (map fresh_row (range_with_len from count)) k ≡ Some row → row ≡ fresh_row (from + k)
    same_from from zero k row is = cc
    same_from from (suc count) zero row is = let same : fresh_row from ≡ row = cc in sym same ∙ ap fresh_row (omega arith)
    same_from from (suc count) (suc k) row is = same_from (from + 1) count k row is ∙ ap fresh_row (omega arith)

-- the fresh rows of a table stand
pub RowsStand-fresh_rows : (size : TableSize) → RowsStand (fresh_rows (row_count size)) size
RowsStand-fresh_rows size = record {
  numbered = AreNumbered-fresh_rows (row_count size);
  ends = λ row is. rw (fresh_there (row_count size) size.jobs row is) (and_from (leb 0 size.last_version) true (le-leb 0 size.last_version (omega arith)) refl);
}
