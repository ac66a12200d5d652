-- The journal of a book whose turns obey a script, and the rows of each part of it.
-- Source: this project; the parts by script_semantics.
use Rattle.std.specs.Prelude.{◌≡◌, ℕ, ◌-◌, List, length, take, drop, get_or}
use Rattle.due_set.specs.Table.{Table}
use Rattle.script_text.specs.declared.command.Command.{Command}
use Rattle.history.specs.Book.{Row}
use Rattle.script_semantics.specs.Starts.{BeginAt}
use Rattle.world_law.specs.Book.{BookState, StandsBehind}
use Rattle.journal_text.specs.Journal.{end_of, journal_text}

-- the rows of the part of a place
abbrev pub part_rows : List Row → List ℕ → ℕ → List Row
part_rows rows starts place =
    let first = get_or starts place 0 in
    take (end_of starts (length rows) place - first) (drop first rows)

-- **The text is the journal of a book whose turns obey a script.**
pub record IsBookJournal (table : Table) (script : List Command) (book : BookState) (text : List ℕ) : Type 0 where
  pub rows : List Row
  pub behind : StandsBehind table rows book
  pub starts : List ℕ
  pub begin : BeginAt book.members table script rows starts
  pub text_is : text ≡ journal_text table book.turns starts
