-- The lines of a journal that are of no turn, and how a text goes on with one. Private functions alone cite it. Source: journal_text.
use Rattle.std.specs.Prelude.{◌≡◌, ◌⊎◌, ⊤, ℕ, ◌+◌, ◌<◌, ◌^◌, List, [], ◌++◌, length, codes, decimal, Result, Ok, Err}
use Rattle.due_set.specs.Table.{Table}
use Rattle.history.specs.Book.{Row}
use Rattle.journal_line.specs.Told.{ToldLine, HeadLine, CommandLine, WalkLine, EndLine, told_line}
use Rattle.journal_line.specs.declared.line.Count.TheVariants.{Number}
use Rattle.script_semantics.specs.Situation.{Situation}
use Rattle.run_replay.specs.declared.replay.Replay.{Replay}
use Rattle.run_audit.specs.Coming.{GoesNoFurther}
use Rattle.run_audit.specs.Played.{HasPlayedOn, StopsPart}
use Rattle.run_audit.specs.Reading.{IsLineFirst}
use Rattle.run_audit.specs.declared.heading.Heading.{Heading}
use Rattle.run_audit.specs.declared.heading.Heading.TheVariants.{First, Command, Walk, Last}
use Rattle.run_audit.specs.declared.lines.Next.{Next}
use Rattle.run_audit.specs.declared.lines.Next.TheVariants.{Line}
use Rattle.run_audit.specs.declared.lines.Rest.{Rest}
use Rattle.run_audit.specs.declared.verdict.Stop.{Stop}
use Rattle.run_audit.specs.declared.verdict.Stop.TheVariants.{At, OutOfMemory}
use Rattle.run_audit.specs.declared.verdict.Why.{Why}

-- what the line tells
abbrev pub told_heading : Heading → ToldLine
told_heading First = HeadLine
told_heading (Command number) = CommandLine (Number number)
told_heading Walk = WalkLine
told_heading Last = EndLine

-- the line
abbrev pub heading_text : Heading → List ℕ
heading_text First = codes "cron journal 1"
heading_text (Command number) = codes "command " ++ decimal number
heading_text Walk = codes "command end"
heading_text Last = codes "end"

-- the number of a command has 64 bits
abbrev pub IsSmallHeading : Heading → Type 0
IsSmallHeading (Command number) = number < 2 ^ 64
IsSmallHeading heading = ⊤

-- what was read of a text is that line
abbrev pub TellsHeading : Next → Heading → Type 0
TellsHeading (Line read) heading = told_line read ≡ told_heading heading
TellsHeading next heading = ⊥

-- the text went on with the line
pub record PassesLine (line : List ℕ) (old new : Rest) : Type 0 where
  pub first : IsLineFirst old.text.now line new.text.now
  pub number : new.number ≡ old.number + 1
  pub few : new.number + length new.text.now < 2 ^ 32

-- the text doesn't go on with the line, and why it can't go on as it does
pub record StopsBefore (table : Table) (text : List ℕ) (old : Replay) (rest : Rest) (number : ℕ) (why : Why) : Type 0 where
  pub number_is : number ≡ rest.number
  pub reason : GoesNoFurther table old rest why
  pub other : (line behind : List ℕ) → IsLineFirst rest.text.now line behind → line ≡ text → ⊥

-- so it stops, or memory was wanting
abbrev pub StopsAtHeading : Table → (text : List ℕ) → Replay → Rest → Stop → Type 0
StopsAtHeading table text old rest (At number why) = StopsBefore table text old rest number why
StopsAtHeading table text old rest OutOfMemory = ⊤

-- a part was played behind its heading
pub record HasPlayedBehind (table : Table) (text : List ℕ) (whole : Situation → List Row → Situation → Type 0) (old : Replay) (rest : Rest) (new : Replay)
    (behind : Rest) : Type 0 where
  pub middle : Rest
  pub passes : PassesLine text rest middle
  pub played : HasPlayedOn table whole old middle new behind

-- it stops behind its heading
pub record StopsBehindHeading (table : Table) (text : List ℕ) (begins : Situation → List Row → Type 0) (whole : Situation → List Row → Situation → Type 0)
    (old : Replay) (rest : Rest) (stop : Stop) : Type 0 where
  pub middle : Rest
  pub passes : PassesLine text rest middle
  pub stops : StopsPart table begins whole old middle stop

-- **What comes of a part with the line before it**
abbrev pub ComesBehind : Table → (text : List ℕ) → (begins : Situation → List Row → Type 0) → (whole : Situation → List Row → Situation → Type 0)
    → (old : Replay) (rest : Rest) (new : Replay) (behind : Rest) → Result ⊤ Stop → Type 0
ComesBehind table text begins whole old rest new behind (Ok done) = HasPlayedBehind table text whole old rest new behind
ComesBehind table text begins whole old rest new behind (Err stop) =
    StopsAtHeading table text old rest stop ⊎ StopsBehindHeading table text begins whole old rest stop

-- the text goes on where it should end, and why it can't go on so
pub record StopsLate (table : Table) (old : Replay) (rest : Rest) (number : ℕ) (why : Why) : Type 0 where
  pub number_is : number ≡ rest.number
  pub reason : GoesNoFurther table old rest why
  pub more : rest.text.now ≡ [] → ⊥

-- so it does, or memory was wanting
abbrev pub StopsAtEnding : Table → Replay → Rest → Stop → Type 0
StopsAtEnding table old rest (At number why) = StopsLate table old rest number why
StopsAtEnding table old rest OutOfMemory = ⊤
