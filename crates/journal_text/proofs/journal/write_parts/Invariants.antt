use Rattle.std.proofs.Common.{length, take}
use Rattle.std.specs.Prelude.{flat_map}
use Rattle.std.specs.List.{range_with_len}
use Rattle.cron_io.specs.Lines.{text_of_lines}
use Rattle.report_text.specs.Writes.{HasWritten}
use Rattle.journal_text.specs.Journal.{part_lines}
use Rattle.journal_text.proofs.journal.write_parts.Given as goal

abbrev pub invariant-loop-place : goal.invariant-loop-place
invariant-loop-place g l =
    let seen = g.K.Sink.seen in
    HasWritten (seen l.fn.sink) (seen l.sink)
    (flat_map (λ place. text_of_lines (part_lines l.table l.turns l.starts place)) (take l.place (range_with_len 0 (length l.starts))))
