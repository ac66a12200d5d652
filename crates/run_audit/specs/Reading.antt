-- How a text is read line by line.
use Rattle.std.specs.Prelude.{◌≡◌, ◌⊎◌, ℕ, ◌+◌, ◌<◌, List, [], ◌∷◌, ◌++◌, length}
use Rattle.journal_line.specs.Line.{IsJournalLine}
use Rattle.journal_line.specs.Told.{told_line}
use Rattle.run_audit.specs.Verdict.{HasNoForm, LacksNewline}
use Rattle.run_audit.specs.declared.lines.Next.{Next}
use Rattle.run_audit.specs.declared.lines.Next.TheVariants.{Line, Bad, End}
use Rattle.run_audit.specs.declared.lines.Rest.{Rest}

-- a text that begins with a line
pub record IsLineFirst (text line rest : List ℕ) : Type 0 where
  pub parts : text ≡ line ++ 10 ∷ rest
  pub lacks : LacksNewline line

-- the text goes on with a line that has no form, or in one without a newline
abbrev pub GoesOnBadly : List ℕ → Type 0
GoesOnBadly text =
    ((line : List ℕ) × (rest : List ℕ) × IsLineFirst text line rest × HasNoForm line) ⊎ ((0 < length text) × LacksNewline text)

-- a line that is read is behind the rest afterwards, and otherwise the rest stays
abbrev pub ReadsNext : Rest → Rest → Next → Type 0
ReadsNext old new (Line read) =
    (line : List ℕ) × IsLineFirst old.text.now line new.text.now × IsJournalLine (told_line read) line × (new.number ≡ old.number + 1)
ReadsNext old new Bad = GoesOnBadly old.text.now × (new ≡ old)
ReadsNext old new End = (old.text.now ≡ []) × (new ≡ old)
