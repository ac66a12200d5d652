-- Where a line breaks a rule. Private functions alone cite it.
use Rattle.std.specs.Prelude.{ℕ, List}
use Rattle.crontab_text.specs.Answers.{Breaks}
use Rattle.crontab_text.specs.Blanks.{SkipsBlanks}
use Rattle.crontab_text.specs.declared.answer.Style.{Style}

-- the first rule that a line breaks, and how many of its bytes stand from there on
pub record IsLineBreak (style : Style) (line : List ℕ) (cause left : ℕ) : Type 0 where
  pub text : List ℕ
  pub skips : SkipsBlanks line text
  pub breaks : Breaks style text cause left
