-- What an audit says of a text: that it is a journal of the run, or which of its lines is the first that can't be, and why. Source: this project.
use Rattle.std.specs.Prelude.{◌≡◌, ◌≢◌, ⊤, ℕ, suc, List, [], ◌∷◌, ◌++◌, length}
use Rattle.std.specs.List.{AllByRecursion}
use Rattle.cron_io.specs.Lines.{text_of_lines}
use Rattle.due_set.specs.Table.{Table}
use Rattle.launch_machine.specs.Clerk.{first_rows}
use Rattle.script_text.specs.declared.command.Command.{Command}
use Rattle.history.specs.Book.{Row, standing_after}
use Rattle.history.specs.Legal.{MayFollow}
use Rattle.journal_line.specs.Line.{IsJournalLine}
use Rattle.journal_line.specs.Told.{ToldLine, TurnLine, ArrivalLine}
use Rattle.journal_text.specs.Journal.{turn_line}
use Rattle.run_audit.specs.Sound.{CanBegin, IsWholeJournal, TellTurns}
use Rattle.run_audit.specs.declared.verdict.Why.{Why}
use Rattle.run_audit.specs.declared.verdict.Why.TheVariants.{BadLine, NotLegal, NotObeyed, Missing}

-- ---- lines

-- no newline stands in the text
abbrev pub LacksNewline : List ℕ → Type 0
LacksNewline text = AllByRecursion (λ byte. byte ≢ 10) text

-- the whole lines of a text, and what stands behind the last newline
pub record IsCutIntoLines (text : List ℕ) (lines : List (List ℕ)) (behind : List ℕ) : Type 0 where
  pub parts : text ≡ text_of_lines lines ++ behind
  pub each : AllByRecursion LacksNewline lines
  pub last : LacksNewline behind

-- ---- reasons

-- the line is of a turn
abbrev pub IsOfTurn : ToldLine → Type 0
IsOfTurn (TurnLine number replica turn) = ⊤
IsOfTurn (ArrivalLine number late) = ⊤
IsOfTurn line = ⊥

-- no form of a journal's lines has this text
abbrev pub HasNoForm : List ℕ → Type 0
HasNoForm line = (told : ToldLine) → IsJournalLine told line → ⊥

-- a turn may come next behind these rows, and has the line
pub record MayComeNextAs (members : ℕ) (table : Table) (rows : List Row) (line : List ℕ) : Type 0 where
  pub row : Row
  pub may : MayFollow members table (standing_after members (first_rows table) rows) row.turn row
  pub is : turn_line table (length rows, row.turn) ≡ line

-- the line of a turn, which no turn has that may come next
pub record IsOfNoTurn (members : ℕ) (table : Table) (rows : List Row) (line : List ℕ) : Type 0 where
  pub told : ToldLine
  pub read : IsJournalLine told line
  pub of_turn : IsOfTurn told
  pub none : MayComeNextAs members table rows line → ⊥

-- the line has a form, and if it is a turn's that turn may come next
pub record IsOutOfPlace (members : ℕ) (table : Table) (rows : List Row) (line : List ℕ) : Type 0 where
  pub told : ToldLine
  pub read : IsJournalLine told line
  pub may : IsOfTurn told → MayComeNextAs members table rows line

-- why the line can't stand behind the lines of these rows
abbrev pub IsReason : ℕ → Table → List Row → (line : List ℕ) → Why → Type 0
IsReason members table rows line BadLine = HasNoForm line
IsReason members table rows line NotLegal = IsOfNoTurn members table rows line
IsReason members table rows line NotObeyed = IsOutOfPlace members table rows line
IsReason members table rows line Missing = ⊥

-- ---- verdicts

-- **The text is a journal of the run**, and nothing else, with these turns
pub record IsJournal (members : ℕ) (table : Table) (script : List Command) (text : List ℕ) (rows : List Row) : Type 0 where
  pub lines : List (List ℕ)
  pub cut : IsCutIntoLines text lines []
  pub whole : IsWholeJournal members table script lines rows

-- the lines so far can begin a journal, and with the next one they can't, for this reason
pub record StopsAtLine (members : ℕ) (table : Table) (script : List Command) (before : List (List ℕ)) (line : List ℕ) (why : Why) : Type 0 where
  pub rows : List Row
  pub tell : TellTurns members table script before rows
  pub ends : CanBegin members table script (before ++ line ∷ []) → ⊥
  pub reason : IsReason members table rows line why

-- The lines can begin a journal, and the text ends: with them, of which none is the last one of a whole journal, or within a line.
abbrev pub StopsAtEnd : ℕ → Table → List Command → (lines : List (List ℕ)) → (behind : List ℕ) → Why → Type 0
StopsAtEnd members table script lines [] why =
    CanBegin members table script lines × ((rows : List Row) → IsWholeJournal members table script lines rows → ⊥) × (why ≡ Missing)
StopsAtEnd members table script lines (byte ∷ bytes) why = CanBegin members table script lines × (why ≡ BadLine)

-- the first of the other lines can't stand behind these, or there is none and the text ends
abbrev pub StopsAtNext : ℕ → Table → List Command → (before rest : List (List ℕ)) → (behind : List ℕ) → Why → Type 0
StopsAtNext members table script before [] behind why = StopsAtEnd members table script before behind why
StopsAtNext members table script before (line ∷ rest) behind why = StopsAtLine members table script before line why

-- **The first line of the text that can't be one of a journal of the run has this number, from 1, and this is why**
pub record IsAtFault (members : ℕ) (table : Table) (script : List Command) (text : List ℕ) (number : ℕ) (why : Why) : Type 0 where
  pub before : List (List ℕ)
  pub rest : List (List ℕ)
  pub behind : List ℕ
  pub cut : IsCutIntoLines text (before ++ rest) behind
  pub number_is : number ≡ suc (length before)
  pub stops : StopsAtNext members table script before rest behind why
