-- What comes of a line by which a replay goes on.
use Rattle.std.specs.Prelude.{◌≡◌, Bool, true, false, List, [], ◌∷◌, ◌++◌}
use Rattle.due_set.specs.Table.{Table}
use Rattle.history.specs.Book.{Row}
use Rattle.journal_line.specs.Told.{ToldLine}
use Rattle.script_semantics.specs.Situation.{Situation, after_turn}
use Rattle.run_replay.specs.Judged.{IsNone, MayBeTold}
use Rattle.run_replay.specs.Replay.{IsReplayAt}
use Rattle.run_replay.specs.declared.replay.Replay.{Replay}

-- the turn that the line tells may come next, and the replay has taken it
pub record HasGoneOn (table : Table) (rows : List Row) (situation : Situation) (told : ToldLine) (old new : Replay) : Type 0 where
  pub row : Row
  pub told_by : MayBeTold table rows old.book told row
  pub ready : IsReplayAt table (rows ++ row ∷ []) new (after_turn old.book.members situation row)
  pub members : new.book.members ≡ old.book.members

-- **The answer is true where the replay has taken the turn of the line**, and false where no turn that the line tells may come next,
-- whichever rows stand behind the replay.
abbrev pub GoesOn : Table → ToldLine → (old new : Replay) → Bool → Type 0
GoesOn table told old new false = (rows : List Row) (situation : Situation) → IsReplayAt table rows old situation → IsNone table rows old told
GoesOn table told old new true = (rows : List Row) (situation : Situation) → IsReplayAt table rows old situation → HasGoneOn table rows situation told old new
