-- A table of lines that is read up to a place.
use Rattle.std.specs.Prelude.{◌≡◌, ◌+◌, ◌≤◌, ℕ, List, length, Result, Ok, Err, IfOk}
use Rattle.crontab_text.specs.Answers.{LineAnswer, Said, Broken, IsAnswer}
use Rattle.crontab_text.specs.LineBody.{body_of}
use Rattle.crontab_text.specs.Lines.{BeginsWithLine}
use Rattle.crontab_text.specs.TableReader.{TableReader, rest_of}
use Rattle.crontab_text.specs.declared.answer.Line.{Line}
use Rattle.crontab_text.specs.declared.answer.LineFault.{LineFault}

-- the answer that a call hands out
abbrev pub answer_to_line : Result Line LineFault → LineAnswer
answer_to_line (Ok line) = Said (body_of line.body)
answer_to_line (Err fault) = Broken fault.cause fault.place

-- the number of its line
abbrev pub number_of : Result Line LineFault → ℕ
number_of (Ok line) = line.number
number_of (Err fault) = fault.line

-- the line stands from this place of the text to that one
pub record StandsBetween (line : Line) (from until : ℕ) : Type 0 where
  pub from_is : line.span.from ≡ from
  pub until_is : line.span.until ≡ until

-- the reader goes on behind the line
pub record ReadsOn (old new : TableReader) (line : List ℕ) : Type 0 where
  pub begins : BeginsWithLine (rest_of old) line (rest_of new)
  pub within : new.place ≤ length new.text
  pub new_is : new ≡ record { text = old.text; style = old.style; owner = old.owner; place = new.place; passed = old.passed + 1 }

-- the next line is read: its number, where it stands, and the answer to it
pub record ReadsLine (old new : TableReader) (handed : Result Line LineFault) : Type 0 where
  pub line : List ℕ
  pub goes_on : ReadsOn old new line
  pub number : number_of handed ≡ old.passed + 1
  pub span : IfOk handed (λ l. StandsBetween l old.place (old.place + length line))
  pub answer : IsAnswer old.style old.owner line (answer_to_line handed)
