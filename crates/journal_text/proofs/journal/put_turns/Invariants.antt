use Rattle.std.proofs.Common.{◌≡◌, map, take}
use Rattle.std.specs.Prelude.{string_bytes}
use Rattle.std.specs.List.{enumerate_from}
use Rattle.cron_io.specs.Lines.{text_of_lines}
use Rattle.journal_text.specs.Journal.{turn_line}
use Rattle.journal_text.proofs.journal.put_turns.Given as goal

abbrev pub invariant-loop-place : goal.invariant-loop-place
invariant-loop-place l = string_bytes l.text ≡ text_of_lines (take l.place (map (turn_line l.table) (enumerate_from l.first l.turns)))
