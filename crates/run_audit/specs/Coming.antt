-- What a text goes on with behind a replay, and what comes of a task whose turn is to be the next. Private functions alone cite it.
use Rattle.std.specs.Prelude.{◌≡◌, ⊤, ℕ, ◌+◌, List, [], ◌∷◌, ◌++◌, length, Some, slice_get}
use Rattle.cluster_sched.specs.declared.fate.Fate.{Fate}
use Rattle.due_set.specs.Table.{Table}
use Rattle.history.specs.Book.{Row}
use Rattle.journal_line.specs.Line.{IsJournalLine}
use Rattle.journal_line.specs.Told.{ToldLine}
use Rattle.journal_text.specs.Journal.{turn_line}
use Rattle.script_semantics.specs.Situation.{IsTurnFor, Situation, Task, after_turn}
use Rattle.run_replay.specs.Judged.{IsJudged}
use Rattle.run_replay.specs.Replay.{IsReplayAt}
use Rattle.run_replay.specs.declared.judge.Judged.{Judged}
use Rattle.run_replay.specs.declared.replay.Replay.{Replay}
use Rattle.run_replay.specs.declared.replay.Setting.{Setting}
use Rattle.run_audit.specs.Played.{GoesOnWith, IsNextReason}
use Rattle.run_audit.specs.Reading.{IsLineFirst}
use Rattle.run_audit.specs.Verdict.{IsOfTurn}
use Rattle.run_audit.specs.declared.lines.Rest.{Rest}
use Rattle.run_audit.specs.declared.play.Coming.{Coming}
use Rattle.run_audit.specs.declared.play.Coming.TheVariants.{Turn, Refused}
use Rattle.run_audit.specs.declared.verdict.Stop.{Stop}
use Rattle.run_audit.specs.declared.verdict.Stop.TheVariants.{At, OutOfMemory}
use Rattle.run_audit.specs.declared.verdict.Why.{Why}
use Rattle.run_audit.specs.declared.verdict.Why.TheVariants.{NotLegal, NotObeyed}

-- ---- the next line

-- the text goes on with the line of no such row, and this is why
pub record ComesNone (members : ℕ) (table : Table) (rows : List Row) (text : List ℕ) (why : Why) : Type 0 where
  pub reason : IsNextReason members table rows text why
  pub none : (row : Row) → GoesOnWith members table rows text row → ⊥

-- it goes on with the line of a turn that was judged, which no other turn has, and behind it with the rest
pub record ComesJudged (table : Table) (rows : List Row) (old new : Replay) (text rest : Rest) (judged : Judged) : Type 0 where
  pub line : List ℕ
  pub first : IsLineFirst text.text.now line rest.text.now
  pub told : ToldLine
  pub read : IsJournalLine told line
  pub is : IsJudged table rows told old new judged
  pub line_is : line ≡ turn_line table (length rows, is.row.turn)
  pub one : (row : Row) → GoesOnWith old.book.members table rows text.text.now row → row.turn ≡ is.row.turn
  pub number : rest.number ≡ text.number + 1

-- what comes next, whichever rows stand behind the replay
abbrev pub Comes : Table → (old new : Replay) → (text rest : Rest) → Coming → Type 0
Comes table old new text rest (Turn judged) =
    (rows : List Row) (situation : Situation) → IsReplayAt table rows old situation → ComesJudged table rows old new text rest judged
Comes table old new text rest (Refused why) =
    (rows : List Row) (situation : Situation) → IsReplayAt table rows old situation → ComesNone old.book.members table rows text.text.now why

-- why no turn has a line that was told: it is of a turn, none of which may come next, or of none
abbrev pub IsRefusalOf : ToldLine → Why → Type 0
IsRefusalOf told NotLegal = IsOfTurn told
IsRefusalOf told NotObeyed = IsOfTurn told → ⊥
IsRefusalOf told why = ⊥

-- why a text can't go on behind a replay as it does, whichever rows stand behind that
abbrev pub GoesNoFurther : Table → Replay → Rest → Why → Type 0
GoesNoFurther table replay text why =
    (rows : List Row) (situation : Situation) → IsReplayAt table rows replay situation → IsNextReason replay.book.members table rows text.text.now why

-- ---- the next turn

-- the fates that are set are these
abbrev pub HaveFates : (ℕ → Fate) → List Setting → Type 0
HaveFates fates settings = (who : ℕ) (setting : Setting) → slice_get settings who ≡ Some setting → setting.fate ≡ fates who

-- the next turn of the text is a wanted one, and was taken
pub record TakesNext (members : ℕ) (table : Table) (rows : List Row) (situation : Situation) (wanted : Row → Type 0) (new : Replay)
    (text rest : Rest) : Type 0 where
  pub row : Row
  pub turn : wanted row
  pub text_is : text.text.now ≡ turn_line table (length rows, row.turn) ++ 10 ∷ rest.text.now
  pub number : rest.number ≡ text.number + 1
  pub ready : IsReplayAt table (rows ++ row ∷ []) new (after_turn members situation row)

-- none of the turns that may come next is a wanted one and has the line with which the text goes on
pub record StopsNext (members : ℕ) (table : Table) (rows : List Row) (wanted : Row → Type 0) (text : Rest) (line : ℕ) (why : Why) : Type 0 where
  pub line_is : line ≡ text.number
  pub reason : IsNextReason members table rows text.text.now why
  pub none : (row : Row) → GoesOnWith members table rows text.text.now row → wanted row → ⊥

-- the next turn is that of a task
abbrev pub TakesTask : Table → Task → (old new : Replay) → (text rest : Rest) → Type 0
TakesTask table task old new text rest =
    (rows : List Row) (situation : Situation) → IsReplayAt table rows old situation
    → TakesNext old.book.members table rows situation (λ row. IsTurnFor situation.fates task row.turn) new text rest

-- it isn't, or memory was wanting
abbrev pub StopsTask : Table → Task → Replay → Rest → Stop → Type 0
StopsTask table task old text (At line why) =
    (rows : List Row) (situation : Situation) → IsReplayAt table rows old situation
    → StopsNext old.book.members table rows (λ row. IsTurnFor situation.fates task row.turn) text line why
StopsTask table task old text OutOfMemory = ⊤
