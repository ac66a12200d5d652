use Rattle.std.proofs.Common.{◌+◌, ◌++◌, ◌∷◌, [], ℕ, List, map, arith, ap, sym, ◌∙◌}
use Rattle.std.specs.Prelude.{string_bytes}
use Rattle.std.specs.List.{enumerate_from}
use Rattle.history.specs.declared.turn.Turn.{Turn}
use Rattle.cron_io.specs.Lines.{text_of_lines}
use Rattle.journal_text.specs.Journal.{turn_line}
use Rattle.journal_text.proofs.PartLemmas.{line_at, line_within, lines_all, text_more}
use Rattle.journal_text.proofs.journal.put_turns.Goals as goal

pub loop-place-preserved : goal.loop-place-preserved
loop-place-preserved c =
    let table = c.args.table.now in
    let turns = c.args.turns.now in
    let first = c.args.first in
    let i = c.loop-place.place in
    let turn = c.index-turns-place.result in
    let lt = c.loop-place-test.true in
    let is = line_at table first turns i turn lt c.index-turns-place.is in
    c.in_ok-push_line.ensures
    ∙ ap (λ (read : Turn). string_bytes c.loop-place.text ++ (turn_line table (first + i, read) ++ 10 ∷ [])) c.turn.ensures
    ∙ ap (λ (text : List ℕ). text ++ (turn_line table (first + i, turn) ++ 10 ∷ [])) c.loop-place.invariant
    ∙ sym (text_more (map (turn_line table) (enumerate_from first turns)) i (turn_line table (first + i, turn)) (line_within table first turns i lt) is)

pub returns : goal.returns
returns c =
    c.loop-place.invariant ∙ ap text_of_lines (lines_all c.args.table.now c.args.first c.args.turns.now c.loop-place.place (omega (arith, c.loop-place-test.false)))
