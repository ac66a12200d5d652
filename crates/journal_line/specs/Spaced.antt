-- Texts whose parts are separated by one space.
use Rattle.std.specs.Prelude.{◌≡◌, ◌≢◌, ℕ, List, ◌∷◌, ◌++◌}
use Rattle.std.specs.List.{AllByRecursion}

-- the text is that word
abbrev pub IsWord : List ℕ → List ℕ → Type 0
IsWord word text = text ≡ word

-- the text is one of the first kind, a space, and one of the second
pub record Spaced (Front Rest : List ℕ → Type 0) (text : List ℕ) : Type 0 where
  pub front : List ℕ
  pub rest : List ℕ
  pub parts : text ≡ front ++ 32 ∷ rest
  pub front_is : Front front
  pub rest_is : Rest rest

-- a space stands nowhere in the text
abbrev pub LacksSpace : List ℕ → Type 0
LacksSpace text = AllByRecursion (λ byte. byte ≢ 32) text

-- A text is cut at its first space. Private functions alone cite it.
pub record IsCutAtSpace (text front rest : List ℕ) : Type 0 where
  pub parts : text ≡ front ++ 32 ∷ rest
  pub lacks : LacksSpace front
