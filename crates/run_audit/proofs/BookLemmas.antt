-- A text that is a journal of a run is the journal of its book.
use Rattle.std.proofs.Common.{ℕ, List, [], ◌∷◌, ◌++◌, append-nil, ap, sym, ◌∙◌, codes}
use Rattle.cron_io.specs.Lines.{text_of_lines}
use Rattle.due_set.specs.Table.{Table}
use Rattle.script_text.specs.declared.command.Command.{Command}
use Rattle.history.specs.Book.{Row}
use Rattle.history.specs.declared.turn.Turn.{Turn}
use Rattle.world_law.specs.Book.{BookState, StandsBehind}
use Rattle.journal_text.specs.Journal.{journal_text}
use Rattle.journal_text.specs.Starts.{IsBookJournal}
use Rattle.run_audit.specs.Sound.{lines_so_far, turns_of}
use Rattle.run_audit.specs.Verdict.{IsJournal}

pub of_book : (table : Table) (script : List Command) (book : BookState) (rows : List Row) (text : List ℕ) → StandsBehind table rows book
    → IsJournal book.members table script text rows → IsBookJournal table script book text
of_book table script book rows text behind journal =
    let whole = journal.whole in
    let end : List (List ℕ) = codes "end" ∷ [] in
    record {
      rows = rows;
      behind = behind;
      starts = whole.starts;
      begin = whole.begin;
      text_is =
          journal.cut.parts ∙ append-nil (text_of_lines journal.lines) ∙ ap text_of_lines whole.are
          ∙ ap (λ n. text_of_lines (lines_so_far table n (turns_of rows) whole.starts ++ end)) (sym whole.begin.count)
          ∙ ap (λ (l : List Turn). journal_text table l whole.starts) (sym behind.turns);
    }
