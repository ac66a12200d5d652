-- What the lines of a table come to. Source: crontab_text for crontabs, anacron_text for anacrontabs.
use Rattle.std.specs.Prelude.{◌≡◌, ℕ, ◌+◌, List, ◌∷◌, ◌++◌, length, Option, None, Some}
use Rattle.std.specs.List.{AllByRecursion}
use Rattle.anacron_text.specs.LogicalLines.{joined}
use Rattle.anacron_text.specs.Settings.{no_settings}
use Rattle.crontab_text.specs.Answers.{IsLineOf, IsLineFault}
use Rattle.crontab_text.specs.LineBody.{LineBody}
use Rattle.crontab_text.specs.declared.answer.LineFault.{LineFault}
use Rattle.crontab_text.specs.declared.answer.Style.{Style}
use Rattle.run_text.specs.Anacrontab.{SayAll, IsFirstBreak}

-- the line says something
abbrev pub Says : Style → List ℕ → List ℕ → Type 0
Says style owner line = (body : LineBody) × IsLineOf style owner line body

-- each line of a section says something: of a crontab in that style, or else of an anacrontab, where one may go on in the next
abbrev pub AreSaid : Option Style → (owner : List ℕ) → List (List ℕ) → Type 0
AreSaid (Some style) owner lines = AllByRecursion (Says style owner) lines
AreSaid None owner lines = SayAll no_settings (joined lines)

-- the first of the lines that says nothing, and why, by its number from 1
pub record IsFirstFault (style : Style) (owner : List ℕ) (lines : List (List ℕ)) (fault : LineFault) : Type 0 where
  pub front : List (List ℕ)
  pub line : List ℕ
  pub back : List (List ℕ)
  pub parts : lines ≡ front ++ line ∷ back
  pub before : AllByRecursion (Says style owner) front
  pub here : IsLineFault style line fault.cause fault.place
  pub number : fault.line ≡ length front + 1

-- the first line of a section that says nothing, and why
abbrev pub IsTableFault : Option Style → (owner : List ℕ) → List (List ℕ) → LineFault → Type 0
IsTableFault (Some style) owner lines fault = IsFirstFault style owner lines fault
IsTableFault None owner lines fault = IsFirstBreak no_settings (joined lines) fault.line fault.cause fault.place
