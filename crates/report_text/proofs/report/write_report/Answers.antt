use Rattle.std.proofs.Common.{length, ap, sym, subst, ◌∙◌, All}
use Rattle.std.proofs.lemmas.List.FromFn.{length-map-range_with_len}
use Rattle.std.proofs.lemmas.List.Sorted.{All-permutation}
use Rattle.cluster_sched.specs.Names.{IsNameIn}
use Rattle.cluster_sched.specs.declared.row.SchedRow.{SchedRow}
use Rattle.report_text.specs.Counts.{counts_of_job}
use Rattle.report_text.proofs.ReportLemmas.{report_of, report_of_none, counts_of_table}
use Rattle.report_text.proofs.WritingLemmas.{writes_on, writes_exit}
use Rattle.report_text.proofs.report.write_report.Goals as goal

pub returns-in_err-rows : goal.returns-in_err-rows
returns-in_err-rows g c = report_of_none c.args.table.now c.args.members c.args.held.now _ _ c.from_residual.ensures.1

pub returns-in_err-counts : goal.returns-in_err-counts
returns-in_err-counts g c = report_of_none c.args.table.now c.args.members c.args.held.now _ _ c.from_residual-in_err-counts.ensures.1

pub returns-in_err-write_head : goal.returns-in_err-write_head
returns-in_err-write_head g c =
    report_of c.args.table.now c.args.members c.args.held.now _ _ _ _ c.in_ok-rows.ensures
    (writes_exit _ _ _ _ _ _ c.from_residual-in_err-write_head.ensures.1 c.in_err-write_head.ensures)

pub write_counts-requires : goal.write_counts-requires
write_counts-requires g c =
    ap length (counts_of_table c.args.table.now c.args.held.now _ _ _ c.deref.ensures.value c.in_ok-counts.ensures c.jobs.ensures.count)
    ∙ length-map-range_with_len (counts_of_job c.args.held.now) 0 (length c.args.table.now.jobs)

pub returns-in_err-write_counts : goal.returns-in_err-write_counts
returns-in_err-write_counts g c =
    let counts = counts_of_table c.args.table.now c.args.held.now _ _ _ c.deref.ensures.value c.in_ok-counts.ensures c.jobs.ensures.count in
    report_of c.args.table.now c.args.members c.args.held.now _ _ _ _ c.in_ok-rows.ensures
    (writes_on _ _ _ _ _ _ _ c.in_ok-write_head.ensures
    (writes_exit _ _ _ _ _ _ c.from_residual-in_err-write_counts.ensures.1 (c.in_err-write_counts.ensures c.args.held.now counts)))

pub write_rows-requires : goal.write_rows-requires
write_rows-requires g c =
    subst (All (λ (row : SchedRow). IsNameIn c.args.table.now row.name)) (sym c.deref-2.ensures.value)
    (All-permutation (λ (row : SchedRow). IsNameIn c.args.table.now row.name) c.args.held.now _ c.in_ok-rows.ensures.same c.requires)

pub returns-in_err-write_rows : goal.returns-in_err-write_rows
returns-in_err-write_rows g c =
    let counts = counts_of_table c.args.table.now c.args.held.now _ _ _ c.deref.ensures.value c.in_ok-counts.ensures c.jobs.ensures.count in
    report_of c.args.table.now c.args.members c.args.held.now _ _ _ _ c.in_ok-rows.ensures
    (writes_on _ _ _ _ _ _ _ c.in_ok-write_head.ensures
    (writes_on _ _ _ _ _ _ _ (c.in_ok-write_counts.ensures c.args.held.now counts)
    (writes_exit _ _ _ _ _ _ c.from_residual-in_err-write_rows.ensures.1 (rw c.deref-2.ensures.value at c.in_err-write_rows.ensures))))

pub returns : goal.returns
returns g c =
    let counts = counts_of_table c.args.table.now c.args.held.now _ _ _ c.deref.ensures.value c.in_ok-counts.ensures c.jobs.ensures.count in
    report_of c.args.table.now c.args.members c.args.held.now _ _ _ _ c.in_ok-rows.ensures
    (writes_on _ _ _ _ _ _ _ c.in_ok-write_head.ensures
    (writes_on _ _ _ _ _ _ _ (c.in_ok-write_counts.ensures c.args.held.now counts)
    (writes_on _ _ _ _ _ _ _ (rw c.deref-2.ensures.value at c.in_ok-write_rows.ensures) c.write_text.ensures)))
