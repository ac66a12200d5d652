-- Which lines can begin a journal of a run: those of a legal book whose turns obey the script so far. Source: this project; the
-- lines by journal_text.
use Rattle.std.specs.Prelude.{◌≡◌, ◌⊎◌, ℕ, suc, ◌-ℤ◌, pos, ◌<◌, ◌≤◌, List, [], ◌∷◌, ◌++◌, length, take, drop, map, All, AllPairs, Option, None, Some, codes, get_or, slice_get}
use Rattle.std.specs.List.{flat_map, range_with_len}
use Rattle.due_set.specs.Table.{Table}
use Rattle.script_text.specs.declared.command.Command.{Command}
use Rattle.history.specs.Book.{Row}
use Rattle.history.specs.Legal.{IsLegal}
use Rattle.history.specs.declared.turn.Turn.{Turn}
use Rattle.script_semantics.specs.Script.{ArePartsOf}
use Rattle.script_semantics.specs.Situation.{Situation, first_situation}
use Rattle.script_semantics.specs.Starts.{BeginAt}
use Rattle.journal_text.specs.Journal.{part_head, part_turns, turn_line}
use Rattle.run_audit.specs.Begins.{BeginsPart, BeginsWalk}

-- ---- turns so far

-- the first turns of a command's part, or behind the last command those of the walk to the window's last minute
abbrev pub BeginsPartOf : ℕ → Table → Option Command → Situation → List Row → Type 0
BeginsPartOf members table None = BeginsWalk members table (table.window.until.0 -ℤ pos 1)
BeginsPartOf members table (Some command) = BeginsPart members table command

-- the parts of the first commands, so many of them, are whole, and the turns behind them begin the next part
pub record IsInPart (members : ℕ) (table : Table) (script : List Command) (place : ℕ) (done rest : List Row) : Type 0 where
  pub situation : Situation
  pub before : ArePartsOf members table (take place script) (first_situation members table) done situation
  pub begins : BeginsPartOf members table (slice_get script place) situation rest

-- the turns behind the last of these numbers begin its part; where no part has begun there are none
abbrev pub IsInLastPart : ℕ → Table → List Command → (starts : List ℕ) → List Row → Type 0
IsInLastPart members table script [] rows = rows ≡ []
IsInLastPart members table script (start ∷ starts) rows =
    let last = get_or (start ∷ starts) (length starts) 0 in
    IsInPart members table script (length starts) (take last rows) (drop last rows)

-- **The turns obey the script so far**, whose parts begin at these numbers as far as they have begun: all of them but the last are
-- whole, and the last one has begun.
pub record ObeysSoFar (members : ℕ) (table : Table) (script : List Command) (rows : List Row) (starts : List ℕ) : Type 0 where
  pub few : length starts ≤ suc (length script)
  pub within : All (λ start. start ≤ length rows) starts
  pub rise : AllPairs (λ a b. a ≤ b) starts
  pub before : (place : ℕ) → place < length starts
      → (situation : Situation)
      × ArePartsOf members table (take place script) (first_situation members table) (take (get_or starts place 0) rows) situation
  pub last : IsInLastPart members table script starts rows

-- ---- lines

-- the turns of some rows
abbrev pub turns_of : List Row → List Turn
turns_of rows = map (λ (row : Row). row.turn) rows

-- the lines of the part of a place, of so many parts
abbrev pub lines_of_part : Table → (parts : ℕ) → List Turn → List ℕ → ℕ → List (List ℕ)
lines_of_part table parts turns starts place = part_head parts place ∷ map (turn_line table) (part_turns turns starts place)

-- the lines of the parts that begin at these numbers, of so many parts
abbrev pub lines_so_far : Table → (parts : ℕ) → List Turn → List ℕ → List (List ℕ)
lines_so_far table parts turns starts =
    codes "cron journal 1" ∷ flat_map (lines_of_part table parts turns starts) (range_with_len 0 (length starts))

-- the lines are those of a legal book's turns that obey the script so far
pub record IsJournalSoFar (members : ℕ) (table : Table) (script : List Command) (lines : List (List ℕ)) (rows : List Row) : Type 0 where
  pub legal : IsLegal members table rows
  pub starts : List ℕ
  pub obeys : ObeysSoFar members table script rows starts
  pub are : lines ≡ lines_so_far table (suc (length script)) (turns_of rows) starts

-- the lines are those of a legal book's turns that obey the whole script, with the last line of a journal
pub record IsWholeJournal (members : ℕ) (table : Table) (script : List Command) (lines : List (List ℕ)) (rows : List Row) : Type 0 where
  pub legal : IsLegal members table rows
  pub starts : List ℕ
  pub begin : BeginAt members table script rows starts
  pub are : lines ≡ lines_so_far table (suc (length script)) (turns_of rows) starts ++ codes "end" ∷ []

-- **The lines tell these turns**, in a journal of the script as far as it has come
abbrev pub TellTurns : ℕ → Table → List Command → (lines : List (List ℕ)) → List Row → Type 0
TellTurns members table script lines rows =
    ((lines ≡ []) × (rows ≡ [])) ⊎ (IsJournalSoFar members table script lines rows ⊎ IsWholeJournal members table script lines rows)

-- **The lines can begin a journal of the script**
abbrev pub CanBegin : ℕ → Table → List Command → (lines : List (List ℕ)) → Type 0
CanBegin members table script lines = (rows : List Row) × TellTurns members table script lines rows
