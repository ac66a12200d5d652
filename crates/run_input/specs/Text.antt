-- Which lines of an input are text, and which line of another input is at fault. Source: RFC 3629.
use Rattle.std.specs.Prelude.{◌≡◌, ◌≢◌, ℕ, ◌+◌, List, ◌∷◌, ◌++◌, length, IsUtf8}
use Rattle.std.specs.List.{AllByRecursion}
use Rattle.crontab_text.specs.Lines.{lines_of}
use Rattle.run_text.specs.declared.refusal.Refusal.{Refusal}
use Rattle.job_table.specs.Table.{at_line}
use Rattle.cron_fields.specs.declared.cause.Cause.TheVariants.{NotText}

-- the line is text: UTF-8 (RFC 3629) without a 0 byte
pub record IsText (line : List ℕ) : Type 0 where
  pub utf8 : IsUtf8 line
  pub no_zero : AllByRecursion (λ byte. byte ≢ 0) line

-- each of the lines is text
abbrev pub AreTexts : List (List ℕ) → Type 0
AreTexts lines = AllByRecursion IsText lines

-- the bytes are no text: their first line that is none is refused, by its number from 1
pub record IsNotText (bytes : List ℕ) (refusal : Refusal) : Type 0 where
  pub above : List (List ℕ)
  pub line : List ℕ
  pub below : List (List ℕ)
  pub lines : lines_of bytes ≡ above ++ line ∷ below
  pub texts : AreTexts above
  pub no_text : IsText line → ⊥
  pub is : refusal ≡ at_line (length above + 1) NotText

-- the bytes begin with a line of text, and that much is behind it
pub record PassesText (bytes after : List ℕ) : Type 0 where
  pub line : List ℕ
  pub lines : lines_of bytes ≡ line ∷ lines_of after
  pub is_text : IsText line

-- the bytes begin with a line that is no text
pub record BeginsWithNoText (bytes : List ℕ) : Type 0 where
  pub line : List ℕ
  pub below : List (List ℕ)
  pub lines : lines_of bytes ≡ line ∷ below
  pub no_text : IsText line → ⊥
