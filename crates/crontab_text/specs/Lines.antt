-- The lines of a text.
use Rattle.std.specs.Prelude.{◌≡◌, ◌≢◌, ◌⊎◌, ℕ, ◌<◌, ◌==◌, if◌then◌else◌, List, [], ◌∷◌, ◌++◌, length}
use Rattle.std.specs.List.{AllByRecursion}

-- the byte stands nowhere in the text
abbrev pub Lacks : ℕ → List ℕ → Type 0
Lacks byte text = AllByRecursion (λ c. c ≢ byte) text

-- The text begins with this line, and that much is behind it: a line ends with a newline, and a last line that isn't
-- empty may lack it.
pub record BeginsWithLine (text line after : List ℕ) : Type 0 where
  pub one_line : Lacks 10 line
  pub split : (text ≡ line ++ 10 ∷ after) ⊎ ((text ≡ line) × (0 < length line) × (after ≡ []))

-- the lines with a byte more at the beginning of the first
abbrev pub begin_with : ℕ → List (List ℕ) → List (List ℕ)
begin_with c [] = (c ∷ []) ∷ []
begin_with c (line ∷ lines) = (c ∷ line) ∷ lines

-- the lines of a text: each ends with a newline, and a last one that isn't empty may lack it
unfoldable pub lines_of : List ℕ → List (List ℕ)
lines_of [] = []
lines_of (c ∷ cs) = if c == 10 then [] ∷ lines_of cs else begin_with c (lines_of cs)
