use Rattle.std.proofs.Common.{List, ◌++◌, ◌∷◌, [], ap, sym, subst, ◌∙◌, arith}
use Rattle.std.specs.List.{range_with_len}
use Rattle.std.proofs.lemmas.List.Elements.{All-map}
use Rattle.std.proofs.lemmas.List.FromFn.{map-range_with_len_more}
use Rattle.paxos_base.specs.Rows.{OpenHasCursor, OpenHaveCursors, fresh_row, fresh_rows, row_count}
use Rattle.paxos_base.specs.declared.rows.JobRow.{JobRow}
use Rattle.paxos_base.proofs.rows.RowList.fresh.Goals as goal

-- the rows of the jobs, and the table's behind them
pub returns : goal.returns
returns c =
    let jobs = c.args.size.jobs in
    c.in_ok-push.ensures.items ∙ ap (λ (rows : List JobRow). rows ++ c.fresh.result ∷ []) c.in_ok-items.ensures
    ∙ ap (λ (row : JobRow). fresh_rows jobs ++ row ∷ []) c.fresh.ensures ∙ sym (map-range_with_len_more fresh_row 0 jobs jobs (omega arith))

pub invariant_of-result : goal.invariant_of-result
invariant_of-result c =
    subst OpenHaveCursors (sym (returns c)) (All-map OpenHasCursor fresh_row (range_with_len 0 (row_count c.args.size)) (λ k d lt some. some))
