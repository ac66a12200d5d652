use Rattle.std.proofs.Common.{arith, length, subst, take, ◌≡◌}
use Rattle.std.specs.Prelude.{flat_map}
use Rattle.std.specs.List.{range_with_len}
use Rattle.std.proofs.lemmas.List.{take_all}
use Rattle.std.proofs.lemmas.List.FromFn.{length-range_with_len}
use Rattle.cron_io.specs.Lines.{text_of_lines}
use Rattle.report_text.specs.Writes.{HasWritten}
use Rattle.report_text.proofs.WritingLemmas.{writes_more, writes_some}
use Rattle.journal_text.specs.Journal.{part_lines}
use Rattle.report_text.proofs.CountLemmas.{place_in_range}
use Rattle.journal_text.proofs.journal.write_parts.Goals as goal

pub returns-in_err-write_part : goal.returns-in_err-write_part
returns-in_err-write_part g c =
    let starts = c.args.starts.now in
    let i = c.loop-place.place in
    let place = place_in_range (length starts) i c.loop-place-test.true in
    writes_some (λ at. text_of_lines (part_lines c.args.table.now c.args.turns.now starts at)) (range_with_len 0 (length starts)) i i _ _ _ _ _
    place.0 place.1 c.loop-place.invariant c.from_residual.ensures.1 c.in_err-write_part.ensures

pub loop-place-preserved : goal.loop-place-preserved
loop-place-preserved g c =
    let starts = c.args.starts.now in
    let i = c.loop-place.place in
    let place = place_in_range (length starts) i c.loop-place-test.true in
    writes_more (λ at. text_of_lines (part_lines c.args.table.now c.args.turns.now starts at)) (range_with_len 0 (length starts)) i i _ _ _
    place.0 place.1 c.loop-place.invariant c.in_ok-write_part.ensures

pub returns : goal.returns
returns g c =
    let starts = c.args.starts.now in
    let i = c.loop-place.place in
    let size : length (range_with_len 0 (length starts)) ≡ length starts = length-range_with_len 0 (length starts) in
    let whole : take i (range_with_len 0 (length starts)) ≡ range_with_len 0 (length starts) =
    take_all i (range_with_len 0 (length starts)) (omega (arith, size, c.loop-place-test.false)) in
    subst (λ places. HasWritten (g.K.Sink.seen c.args.sink.now) (g.K.Sink.seen c.loop-place.sink)
    (flat_map (λ at. text_of_lines (part_lines c.args.table.now c.args.turns.now starts at)) places)) whole c.loop-place.invariant
