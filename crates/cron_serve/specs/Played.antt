-- A run that was played, as far as the writing of its texts needs it. Private functions alone cite it.
use Rattle.std.specs.Prelude.{◌≡◌, ◌≤◌, ℕ, Bool, true, false, List, [], length, None, if◌then◌else◌}
use Rattle.due_set.specs.Table.{IsSound, Table}
use Rattle.journal_text.specs.Journal.{journal_text}
use Rattle.script_semantics.specs.Starts.{AreStarts}
use Rattle.script_play.specs.Watch.{IsWatched}
use Rattle.script_play.specs.declared.seen.Seen.{Seen}
use Rattle.script_text.specs.declared.command.Command.{Command}
use Rattle.world_law.specs.Book.{BookState, IsLegalBook}
use Rattle.cron_serve.specs.declared.answer.Played.{Played}

-- The book is of these replicas, seven at most, and no call is pending in it; rows by the table stand behind it; the table
-- is sound; and parts may begin at these of the turns.
pub record IsPlayed (played : Played) : Type 0 where
  pub members : played.book.members ≡ played.members
  pub few : played.members ≤ 7
  pub sound : IsSound played.table
  pub legal : IsLegalBook played.table played.book
  pub rest : played.book.pending ≡ None
  pub starts : AreStarts (length played.book.turns) played.starts.items

-- what was seen of a board, where that is asked for, and nothing where not
abbrev pub HasWatched : (watch : Bool) → Table → List Command → BookState → (starts : List ℕ) → List Seen → Type 0
HasWatched true table script book starts seen = IsWatched table script book starts seen
HasWatched false table script book starts seen = seen ≡ []

-- the journal of the run, where it is asked for, and nothing where not
abbrev pub played_journal : (journal : Bool) → Played → List ℕ
played_journal journal played = if journal then journal_text played.table played.book.turns played.starts.items else []
