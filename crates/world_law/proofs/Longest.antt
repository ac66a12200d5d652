-- The longest letter of a book.
use Rattle.std.proofs.Common.{◌≡◌, ◌≤◌, ◌++◌, ◌∷◌, [], List, length, max, inl, inr, subst, arith}
use Rattle.std.specs.List.{Contains}
use Rattle.due_set.proofs.Rising.{Contains-cases, Contains-none}
use Rattle.world_law.specs.Book.{longest_of}
use Rattle.world_law.specs.declared.letter.LetterRow.{LetterRow}

-- with one more letter the longest is that one, or the one that was
pub longest_with : (letters : List LetterRow) (letter : LetterRow) → longest_of (letters ++ letter ∷ []) ≡ max (longest_of letters) (length letter.bytes)
longest_with [] letter = omega arith
longest_with (first ∷ letters) letter = let rest = longest_with letters letter in omega (arith, rest)

-- no letter is longer than the longest
pub none_longer : (letters : List LetterRow) (letter : LetterRow) → Contains letters letter → length letter.bytes ≤ longest_of letters
none_longer [] letter has = absurd (Contains-none letter has)
none_longer (first ∷ letters) letter has = elim (Contains-cases first letters letter has) [
  | inl same ↦ subst (λ (one : LetterRow). length one.bytes ≤ longest_of (first ∷ letters)) same (omega arith)
  | inr among ↦ let rest = none_longer letters letter among in omega (arith, rest)
]
