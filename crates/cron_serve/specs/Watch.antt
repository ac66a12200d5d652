-- The lines of what was seen of a board of launches. Source: docs/FORMATS.md.
use Rattle.std.specs.Prelude.{◌≡◌, ℕ, List, ◌∷◌, ◌++◌, map, codes, decimal}
use Rattle.cron_io.specs.Lines.{text_of_lines}
use Rattle.due_set.specs.Table.{Table}
use Rattle.script_text.specs.declared.command.Command.{Command}
use Rattle.world_law.specs.Book.{BookState}
use Rattle.script_play.specs.Watch.{IsWatched}
use Rattle.script_play.specs.declared.seen.Seen.{Seen}

-- watch K PREFIX OPEN: the number of the command, how many entries of the log the launch table had that was seen, and how many jobs
-- were open in it
abbrev pub watch_line : Seen → List ℕ
watch_line seen = codes "watch " ++ (decimal seen.number ++ 32 ∷ (decimal seen.prefix ++ 32 ∷ decimal seen.jobs_open))

-- a line for each time that the board was seen
abbrev pub watch_text : List Seen → List ℕ
watch_text seen = text_of_lines (map watch_line seen)

-- **The text tells what was seen of the board** after each command `free` of a script, which the turns of the book obey.
pub record IsBookWatch (table : Table) (script : List Command) (book : BookState) (text : List ℕ) : Type 0 where
  pub starts : List ℕ
  pub seen : List Seen
  pub has : IsWatched table script book starts seen
  pub text_is : text ≡ watch_text seen
