use Rattle.std.proofs.Common.{ℕ, List, length, map, ap, subst, ◌++◌, ◌∷◌, []}
use Rattle.std.specs.List.{range_with_len}
use Rattle.report_text.specs.Report.{count_line}
use Rattle.report_text.specs.Writes.{Writes}
use Rattle.report_text.proofs.CountLemmas.{place_in_range, line_of_counts}
use Rattle.report_text.proofs.WritingLemmas.{writes_some, writes_more, seen_at, inside_map}
use Rattle.report_text.proofs.report.write_counts.Goals as goal

abbrev whole_line : List ℕ → List ℕ
whole_line line = line ++ 10 ∷ []

pub returns-in_err-write_count : goal.returns-in_err-write_count
returns-in_err-write_count g c = λ held known.
    let table = c.args.table.now in
    let line = count_line table held in
    let jobs = range_with_len 0 (length table.jobs) in
    let job = c.loop-job.job in
    let below = rw c.jobs-job-end.ensures.count at c.loop-job-test.true in
    let place = place_in_range (length table.jobs) job below in
    writes_some whole_line (map line jobs) job (line job) _ _ _ _ _ (inside_map line jobs job place.0) (seen_at line jobs job job place.1) (c.loop-job.invariant held known) c.from_residual.ensures.1
    (subst (Writes _ _ _) (ap whole_line (line_of_counts table held job c.args.counts.now _ below known)) c.in_err-write_count.ensures)

pub loop-job-preserved : goal.loop-job-preserved
loop-job-preserved g c = λ held known.
    let table = c.args.table.now in
    let line = count_line table held in
    let jobs = range_with_len 0 (length table.jobs) in
    let job = c.loop-job.job in
    let below = rw c.jobs-job-end.ensures.count at c.loop-job-test.true in
    let place = place_in_range (length table.jobs) job below in
    writes_more whole_line (map line jobs) job (line job) _ _ _ (inside_map line jobs job place.0) (seen_at line jobs job job place.1) (c.loop-job.invariant held known)
    (subst (Writes _ _ _) (ap whole_line (line_of_counts table held job c.args.counts.now _ below known)) c.in_ok-write_count.ensures)
