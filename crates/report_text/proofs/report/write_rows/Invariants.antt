use Rattle.std.proofs.Common.{map, take}
use Rattle.cron_io.specs.Lines.{text_of_lines}
use Rattle.report_text.specs.Report.{row_line}
use Rattle.report_text.specs.Writes.{HasWritten}
use Rattle.report_text.proofs.report.write_rows.Given as goal

abbrev pub invariant-loop-row : goal.invariant-loop-row
invariant-loop-row g l =
    let seen = g.K.Sink.seen in
    HasWritten (seen l.fn.sink) (seen l.sink)
    (text_of_lines (take l.row-index (map (row_line l.table) l.rows)))
