-- What comes of a part that is played by a text: the text begins with the lines of its turns, or stops within it. Private functions
-- alone cite it, but for the last one.
use Rattle.std.specs.Prelude.{◌≡◌, ⊤, ℕ, ◌+◌, ◌<◌, ◌^◌, List, [], ◌∷◌, ◌++◌, length, map, true, Some, Result, Ok, Err, slice_get}
use Rattle.std.specs.List.{enumerate_from}
use Rattle.cron_io.specs.Lines.{text_of_lines}
use Rattle.due_set.specs.Table.{Table}
use Rattle.launch_machine.specs.Clerk.{first_rows}
use Rattle.script_text.specs.declared.command.Command.{Command}
use Rattle.history.specs.Book.{Row, standing_after}
use Rattle.history.specs.Legal.{IsLegal, MayFollow}
use Rattle.script_semantics.specs.Situation.{Situation}
use Rattle.journal_text.proofs.Twins.{AreTwins}
use Rattle.journal_text.specs.Journal.{turn_line}
use Rattle.run_replay.specs.Quiet.{runs_by_seat}
use Rattle.run_replay.specs.Replay.{IsReplayAt}
use Rattle.run_replay.specs.declared.replay.Replay.{Replay}
use Rattle.run_replay.specs.declared.replay.Seat.{Seat}
use Rattle.run_audit.specs.Sound.{turns_of}
use Rattle.run_audit.specs.Reading.{GoesOnBadly, IsLineFirst}
use Rattle.run_audit.specs.Verdict.{IsAtFault, IsJournal, IsOfNoTurn, IsOutOfPlace}
use Rattle.run_audit.specs.declared.lines.Rest.{Rest}
use Rattle.run_audit.specs.declared.verdict.Stop.{Stop}
use Rattle.run_audit.specs.declared.verdict.Stop.TheVariants.{At, OutOfMemory}
use Rattle.run_audit.specs.declared.verdict.Why.{Why}
use Rattle.run_audit.specs.declared.verdict.Why.TheVariants.{BadLine, NotLegal, NotObeyed, Missing}

-- the lines of turns, the first of which has that number
abbrev pub lines_from : Table → ℕ → List Row → List (List ℕ)
lines_from table first rows = map (turn_line table) (enumerate_from first (turns_of rows))

-- the replica of a number runs
abbrev pub RunsInReplay : ℕ → Replay → Type 0
RunsInReplay who replay = (seat : Seat) → slice_get replay.seats.items who ≡ Some seat → runs_by_seat seat ≡ true

-- ---- a whole part

-- **A whole part was played**: the text began with the lines of its turns, and behind them the replay is in the situation after it.
pub record HasPlayedPart (table : Table) (whole : Situation → List Row → Situation → Type 0) (rows : List Row) (situation : Situation) (text : Rest)
    (new : Replay) (rest : Rest) : Type 0 where
  pub part : List Row
  pub after : Situation
  pub is : whole situation part after
  pub text_is : text.text.now ≡ text_of_lines (lines_from table (length rows) part) ++ rest.text.now
  pub number : rest.number ≡ text.number + length part
  pub ready : IsReplayAt table (rows ++ part) new after

-- so it was, whichever rows stand behind the replay
abbrev pub PlaysPart : Table → (whole : Situation → List Row → Situation → Type 0) → Replay → Rest → Replay → Rest → Type 0
PlaysPart table whole old text new rest =
    (rows : List Row) (situation : Situation) → IsReplayAt table rows old situation → HasPlayedPart table whole rows situation text new rest

-- and the replay may go on by the rest of the text
pub record HasPlayedOn (table : Table) (whole : Situation → List Row → Situation → Type 0) (old : Replay) (text : Rest) (new : Replay)
    (rest : Rest) : Type 0 where
  pub plays : PlaysPart table whole old text new rest
  pub members : new.book.members ≡ old.book.members
  pub few : rest.number + length rest.text.now < 2 ^ 32

-- ---- a part that stops

-- why a text can't go on so behind these rows
abbrev pub IsNextReason : ℕ → Table → List Row → (rest : List ℕ) → Why → Type 0
IsNextReason members table rows rest BadLine = GoesOnBadly rest
IsNextReason members table rows rest NotLegal = (line : List ℕ) × (behind : List ℕ) × IsLineFirst rest line behind × IsOfNoTurn members table rows line
IsNextReason members table rows rest NotObeyed = (line : List ℕ) × (behind : List ℕ) × IsLineFirst rest line behind × IsOutOfPlace members table rows line
IsNextReason members table rows rest Missing = rest ≡ []

-- a row may come next behind these, and the text goes on with its line
pub record GoesOnWith (members : ℕ) (table : Table) (rows : List Row) (text : List ℕ) (row : Row) : Type 0 where
  pub may : MayFollow members table (standing_after members (first_rows table) rows) row.turn row
  pub behind : List ℕ
  pub first : IsLineFirst text (turn_line table (length rows, row.turn)) behind

-- The rows begin the part, none of their fronts is whole, and none of these rows goes on behind them: whichever twins they have.
pub record StopsIn (members : ℕ) (begins : Situation → List Row → Type 0) (whole : Situation → List Row → Situation → Type 0) (Next : Row → Type 0)
    (situation : Situation) (rows : List Row) : Type 0 where
  pub begun : begins situation rows
  pub not_whole : (front more : List Row) (after : Situation) → whole situation front after → AreTwins members situation.standing rows (front ++ more) → ⊥
  pub stuck : (others : List Row) (row : Row) → AreTwins members situation.standing rows others → Next row → begins situation (others ++ row ∷ []) → ⊥

-- **The text stops within a part**, at that line and for that reason: it begins with the lines of turns that begin the part and don't end
-- it, and doesn't go on with a line of it.
pub record StopsMidway (members : ℕ) (table : Table) (begins : Situation → List Row → Type 0) (whole : Situation → List Row → Situation → Type 0)
    (rows : List Row) (situation : Situation) (text : Rest) (fault : ℕ × Why) : Type 0 where
  pub part : List Row
  pub legal : IsLegal members table (rows ++ part)
  pub rest : List ℕ
  pub stops : StopsIn members begins whole (GoesOnWith members table (rows ++ part) rest) situation part
  pub text_is : text.text.now ≡ text_of_lines (lines_from table (length rows) part) ++ rest
  pub line_is : fault.0 ≡ text.number + length part
  pub reason : IsNextReason members table (rows ++ part) rest fault.1

-- a part stops so, whichever rows stand behind the replay, or memory was wanting
abbrev pub StopsPart : Table → (begins : Situation → List Row → Type 0) → (whole : Situation → List Row → Situation → Type 0) → Replay → Rest → Stop → Type 0
StopsPart table begins whole old text (At line why) =
    (rows : List Row) (situation : Situation) → IsReplayAt table rows old situation
    → StopsMidway old.book.members table begins whole rows situation text (line, why)
StopsPart table begins whole old text OutOfMemory = ⊤

-- ---- either

-- **What comes of a part that is played by a text**: it is whole, or stops
abbrev pub ComesOf : {X : Type 0} → Table → (begins : Situation → List Row → Type 0) → (whole : Situation → List Row → Situation → Type 0)
    → (old : Replay) (text : Rest) (new : Replay) (rest : Rest) → Result X Stop → Type 0
ComesOf table begins whole old text new rest (Ok done) = HasPlayedOn table whole old text new rest
ComesOf table begins whole old text new rest (Err stop) = StopsPart table begins whole old text stop

-- what comes of a whole script that is played by a text from the first line on
abbrev pub PlaysScript : Table → List Command → (text : List ℕ) → (old new : Replay) → Result ⊤ Stop → Type 0
PlaysScript table script text old new (Ok done) =
    (rows : List Row) × (situation : Situation) × IsReplayAt table rows new situation × IsJournal old.book.members table script text rows
PlaysScript table script text old new (Err (At line why)) = IsAtFault old.book.members table script text line why
PlaysScript table script text old new (Err OutOfMemory) = ⊤
