-- Texts that are read line by line. Private functions alone cite it.
use Rattle.std.specs.Prelude.{◌≡◌, ℕ, List, ◌++◌}
use Rattle.crontab_text.specs.Lines.{lines_of}
use Rattle.audit_text.specs.Parts.{BeginsReport, EndsAtFirst}

-- the text is cut between two lines
pub record IsCutBetween (text front rest : List ℕ) : Type 0 where
  pub parts : text ≡ front ++ rest
  pub lines : lines_of text ≡ lines_of front ++ lines_of rest

-- the text goes on with the last of its lines that begins a report
abbrev pub GoesOnToReport : (text rest : List ℕ) → Type 0
GoesOnToReport text rest = (front : List ℕ) × IsCutBetween text front rest × BeginsReport (lines_of rest)

-- the rest is what stands behind the first line of the text that ends a report, or nothing
abbrev pub GoesOnBehindReport : (text rest : List ℕ) → Type 0
GoesOnBehindReport text rest = (front : List ℕ) × IsCutBetween text front rest × EndsAtFirst front rest
