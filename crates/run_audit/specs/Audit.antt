-- The verdict of an audit on a text, for a run and the table of its jobs. Source: this project.
use Rattle.std.specs.Prelude.{◌≡◌, ℕ, List, None}
use Rattle.due_set.specs.Table.{Table}
use Rattle.history.specs.Book.{Row}
use Rattle.run_text.specs.Run.{Run}
use Rattle.world_law.specs.Book.{BookState, StandsBehind}
use Rattle.run_audit.specs.Verdict.{IsAtFault, IsJournal}
use Rattle.run_audit.specs.declared.journal.Verdict.{Verdict}
use Rattle.run_audit.specs.declared.journal.Verdict.TheVariants.{Yes, No}

-- the text is a journal of the run, and this is the book with its turns
pub record IsJournalOf (run : Run) (table : Table) (text : List ℕ) (book : BookState) : Type 0 where
  pub members : book.members ≡ run.members
  pub rest : book.pending ≡ None
  pub rows : List Row
  pub behind : StandsBehind table rows book
  pub journal : IsJournal run.members table run.commands text rows

-- **The verdict on the text**: it is a journal of the run, with the turns of this book; or its first line that can't be one of a journal has
-- this number, from 1, and this is why.
abbrev pub IsVerdict : Run → Table → (text : List ℕ) → Verdict → Type 0
IsVerdict run table text (Yes book) = IsJournalOf run table text book
IsVerdict run table text (No line why) = IsAtFault run.members table run.commands text line why
