use Rattle.std.proofs.Common.{◌++◌, ◌∷◌, [], length, map}
use Rattle.cron_io.specs.Lines.{text_of_lines}
use Rattle.report_text.proofs.WritingLemmas.{writes_exit, writes_no_memory, writes_on}
use Rattle.journal_text.specs.Journal.{part_head, part_turns, turn_line}
use Rattle.journal_text.proofs.journal.write_part.Goals as goal

pub returns-in_err-put_head : goal.returns-in_err-put_head
returns-in_err-put_head g c = writes_no_memory _ _ _ c.from_residual.ensures.1

pub returns-in_err-write_line : goal.returns-in_err-write_line
returns-in_err-write_line g c =
    let table = c.args.table.now in
    let turns = c.args.turns.now in
    let starts = c.args.starts.now in
    let place = c.args.place in
    writes_exit _ _ _ _ (part_head (length starts) place ++ 10 ∷ []) (text_of_lines (map (turn_line table) (part_turns turns starts place)))
    c.from_residual-in_err-write_line.ensures.1 (rw c.in_ok-put_head.ensures at c.in_err-write_line.ensures)

pub returns : goal.returns
returns g c =
    let table = c.args.table.now in
    let turns = c.args.turns.now in
    let starts = c.args.starts.now in
    let place = c.args.place in
    writes_on _ _ _ _ _ (part_head (length starts) place ++ 10 ∷ []) (text_of_lines (map (turn_line table) (part_turns turns starts place)))
    (rw c.in_ok-put_head.ensures at c.in_ok-write_line.ensures) (rw c.part_end-end.ensures.is at c.write_turns.ensures)
