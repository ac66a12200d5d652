use Rattle.std.proofs.Common.{◌≡◌, List, length, map, take}
use Rattle.std.specs.List.{range_with_len}
use Rattle.cluster_sched.specs.declared.row.SchedRow.{SchedRow}
use Rattle.report_text.specs.Counts.{counts_of_job}
use Rattle.cron_io.specs.Lines.{text_of_lines}
use Rattle.report_text.specs.Report.{count_line}
use Rattle.report_text.specs.Writes.{HasWritten}
use Rattle.report_text.proofs.report.write_counts.Given as goal

abbrev pub invariant-loop-job : goal.invariant-loop-job
invariant-loop-job g l =
    let seen = g.K.Sink.seen in
    let jobs = range_with_len 0 (length l.table.jobs) in
    (held : List SchedRow) → l.counts ≡ map (counts_of_job held) jobs
    → HasWritten (seen l.fn.sink) (seen l.sink)
    (text_of_lines (take l.job (map (count_line l.table held) jobs)))
