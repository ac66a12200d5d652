-- The first word of a line.
use Rattle.std.proofs.Common.{◌≡◌, ◌≢◌, ℕ, ◌+◌, ◌<◌, ◌==◌, List, [], ◌∷◌, ◌++◌, length, get_or, refl, sym, ◌∙◌, subst, inl, inr, false, arith}
use Rattle.std.specs.List.{Contains}
use Rattle.std.proofs.lemmas.Bool.{ne_eqb}
use Rattle.std.proofs.lemmas.Bool.Decides.{eqb_tells}
use Rattle.std.proofs.lemmas.List.{get_or_default}
use Rattle.run_text.specs.Grammar.{first_word}
use Rattle.run_text.proofs.ListLemmas.{Lacks}
use Rattle.script_text.proofs.CutLemmas.{Lacks-from_get_or}

word_before : (word rest : List ℕ) → Lacks 32 word → first_word (word ++ 32 ∷ rest) ≡ word
word_before [] rest lacks = refl
word_before (c ∷ cs) rest lacks =
    let other : (c == 32) ≡ false = ne_eqb c 32 lacks.0 in
    rw (other, word_before cs rest lacks.1) refl

word_whole : (text : List ℕ) → Lacks 32 text → first_word text ≡ text
word_whole [] lacks = refl
word_whole (c ∷ cs) lacks =
    let other : (c == 32) ≡ false = ne_eqb c 32 lacks.0 in
    rw (other, word_whole cs lacks.1) refl

-- what stands before the first space
pub first_word-cut : (text word rest : List ℕ) → text ≡ word ++ 32 ∷ rest → ((i : ℕ) → i < length word → get_or word i 0 ≢ 32) → word ≡ first_word text
first_word-cut text word rest is lacks = rw (is, word_before word rest (Lacks-from_get_or 32 word lacks)) refl

-- a line without a space
pub first_word-whole : (text : List ℕ) → ((i : ℕ) → i < length text → get_or text i 0 ≢ 32) → text ≡ first_word text
first_word-whole text lacks = rw (word_whole text (Lacks-from_get_or 32 text lacks)) refl

-- a word that is none of some words, and not the next one either
pub none_before : (words : List (List ℕ)) (word : List ℕ) (n : ℕ) → ((k : ℕ) → k < n → get_or words k [] ≢ word) → get_or words n [] ≢ word → (k : ℕ) → k < n + 1 → get_or words k [] ≢ word
none_before words word n below here k lt =
    elim (eqb_tells k n) [
      | inl is ↦ subst (λ i. get_or words i [] ≢ word) (sym is.1) here
      | inr other ↦ let differ = other.1 in below k (omega arith)
    ]

-- a word that is none of the words at their places
pub not_among : (words : List (List ℕ)) (word : List ℕ) → ((k : ℕ) → k < length words → get_or words k [] ≢ word) → Contains words word → ⊥
not_among words word none found = none found.0 found.1 (get_or_default words found.0 [] word found.1 ∙ found.2)
