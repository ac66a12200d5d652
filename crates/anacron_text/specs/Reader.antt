-- A table of lines that is read up to a place.
use Rattle.std.specs.Prelude.{◌≡◌, ◌+◌, ◌≤◌, ℕ, List, length, Result, Ok, Err, IfOk}
use Rattle.crontab_text.specs.declared.answer.LineFault.{LineFault}
use Rattle.anacron_text.specs.Answers.{AnacronLineAnswer, Said, Broken, IsAnacronAnswer, SetsByAnswer}
use Rattle.anacron_text.specs.LineBody.{anacron_body_of}
use Rattle.anacron_text.specs.LogicalLines.{BeginsWithLogicalLine, line_count}
use Rattle.anacron_text.specs.TableReader.{AnacronTableReader, anacron_rest_of}
use Rattle.anacron_text.specs.declared.answer.AnaLine.{AnaLine}

-- the answer that a call hands out
abbrev pub anacron_answer_of : Result AnaLine LineFault → AnacronLineAnswer
anacron_answer_of (Ok line) = Said (anacron_body_of line.body)
anacron_answer_of (Err fault) = Broken fault.cause fault.place

-- the number of its line
abbrev pub anacron_number_of : Result AnaLine LineFault → ℕ
anacron_number_of (Ok line) = line.number
anacron_number_of (Err fault) = fault.line

-- the line stands from this place of the text to that one
pub record AnacronStandsAt (line : AnaLine) (from until : ℕ) : Type 0 where
  pub from_is : line.span.from ≡ from
  pub until_is : line.span.until ≡ until

-- the reader goes on behind the logical line, with the settings that stand there
pub record AnacronGoesOn (old new : AnacronTableReader) (line : List ℕ) : Type 0 where
  pub begins : BeginsWithLogicalLine (anacron_rest_of old) line (anacron_rest_of new)
  pub within : new.place ≤ length new.text
  pub new_is : new ≡ record { text = old.text; settings = new.settings; place = new.place; passed = old.passed + line_count line }

-- The next logical line is read: the number of its first line, where it stands, the answer to it, and what its variables
-- set.
pub record ReadsAnacronLine (old new : AnacronTableReader) (handed : Result AnaLine LineFault) : Type 0 where
  pub line : List ℕ
  pub goes_on : AnacronGoesOn old new line
  pub number : anacron_number_of handed ≡ old.passed + 1
  pub span : IfOk handed (λ l. AnacronStandsAt l old.place (old.place + length line))
  pub answer : IsAnacronAnswer old.settings line (anacron_answer_of handed)
  pub sets : SetsByAnswer (anacron_answer_of handed) old.settings new.settings
