-- The first line at which a text differs from the one that was expected. Source: this project.
use Rattle.std.specs.Prelude.{◌≡◌, ◌≢◌, ⊤, ℕ, ◌+◌, List, [], ◌∷◌, ◌++◌, length}

-- the lines don't begin alike: the first ones differ, or one has a first line and the other none
abbrev pub HeadsDiffer : List (List ℕ) → List (List ℕ) → Type 0
HeadsDiffer [] [] = ⊥
HeadsDiffer [] (line ∷ lines) = ⊤
HeadsDiffer (line ∷ lines) [] = ⊤
HeadsDiffer (line ∷ lines) (other ∷ others) = line ≢ other

-- the first line that differs or is missing, by its number from 1: those before it are the same
pub record IsFirstDifference (lines expected : List (List ℕ)) (number : ℕ) : Type 0 where
  pub same : List (List ℕ)
  pub rest : List (List ℕ)
  pub other : List (List ℕ)
  pub lines_are : lines ≡ same ++ rest
  pub expected_are : expected ≡ same ++ other
  pub differ : HeadsDiffer rest other
  pub number_is : number ≡ length same + 1
