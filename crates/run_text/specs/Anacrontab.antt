-- What the logical lines of an anacrontab come to (anacrontab(5) of cronie).
use Rattle.std.specs.Prelude.{◌≡◌, ℕ, ◌+◌, List, ◌∷◌, ◌++◌, ⊤}
use Rattle.std.specs.List.{AllByRecursion, sum_by}
use Rattle.anacron_text.specs.Answers.{AnacronLineAnswer, Said, Broken, IsAnacronLineFault, AreAnswersBelow}
use Rattle.anacron_text.specs.LogicalLines.{line_count}
use Rattle.anacron_text.specs.declared.settings.Settings.{Settings}

-- the answer is that the line says something
abbrev pub IsSaid : AnacronLineAnswer → Type 0
IsSaid (Said body) = ⊤
IsSaid (Broken cause place) = ⊥

-- each of the logical lines says something, the first of them below these settings
pub record SayAll (settings : Settings) (lines : List (List ℕ)) : Type 0 where
  pub answers : List AnacronLineAnswer
  pub are : AreAnswersBelow lines settings answers
  pub said : AllByRecursion IsSaid answers

-- the first of the logical lines that breaks a rule, which rule and where, by the number of its own first line, from 1
pub record IsFirstBreak (settings : Settings) (lines : List (List ℕ)) (number cause place : ℕ) : Type 0 where
  pub front : List (List ℕ)
  pub line : List ℕ
  pub back : List (List ℕ)
  pub parts : lines ≡ front ++ line ∷ back
  pub before : SayAll settings front
  pub here : IsAnacronLineFault line cause place
  pub number_is : number ≡ sum_by line_count front + 1
