-- The report of a book: over what the scheduler holds after its turns. Source: docs/RUN_FILE.md; the book by world_law.
use Rattle.std.specs.Prelude.{ℕ, List}
use Rattle.due_set.specs.Table.{Table}
use Rattle.history.specs.Book.{Row}
use Rattle.launch_safety.specs.Fitting.{held_in}
use Rattle.world_law.specs.Book.{BookState, StandsBehind}
use Rattle.report_text.specs.Report.{IsReport}

-- The text is the report of a book: the rows of its turns stand behind it, and it lists what the scheduler holds after them.
pub record IsBookReport (table : Table) (book : BookState) (text : List ℕ) : Type 0 where
  pub rows : List Row
  pub behind : StandsBehind table rows book
  pub report : IsReport table book.members (held_in book.members table rows) text
