-- Texts cut at their first space, and behind a word.
use Rattle.std.proofs.Common.{◌≡◌, ◌≢◌, ℕ, false, bytes_eq, List, ◌∷◌, ◌++◌, Option, Some, None, Bor, IfSome, IfNone, MatchOption, ap, sym, ◌∙◌, subst}
use Rattle.std.proofs.lemmas.List.{append_cancel_left}
use Rattle.std.proofs.lemmas.Bool.{true≢false}
use Rattle.std.proofs.lemmas.Slice.Eq.{bytes_eq-Decides}
use Rattle.std.proofs.lemmas.Str.Pattern.{IsSplitOnceResult}
use Rattle.script_text.proofs.CutLemmas.{cut_at_space, lacks_space, lacks_none, same_cut}
use Rattle.journal_line.specs.Spaced.{IsWord, Spaced, LacksSpace, IsCutAtSpace}

-- what `split_once` answers with
pub cut_of : (text : List ℕ) (r : Option (Bor (List ℕ) × Bor (List ℕ))) → IsSplitOnceResult 32 text r → IfSome r (λ parts. IsCutAtSpace text parts.0.now parts.1.now)
cut_of text None split = tt
cut_of text (Some parts) split = let cut = cut_at_space text parts split in record { parts = cut.parts; lacks = cut.lacks }

pub lacks_of : (text : List ℕ) (r : Option (Bor (List ℕ) × Bor (List ℕ))) → IsSplitOnceResult 32 text r → IfNone r (LacksSpace text)
lacks_of text None split = lacks_space text split
lacks_of text (Some parts) split = tt

-- where no space stands behind the word, no rest does
pub no_space_behind : (word text rest : List ℕ) (r : Option (Bor (List ℕ))) → text ≡ word ++ rest → MatchOption r ((x : List ℕ) → rest ≢ 32 ∷ x) (λ x. rest ≡ 32 ∷ x.now)
    → IfNone r ((x : List ℕ) → text ≢ word ++ 32 ∷ x)
no_space_behind word text rest None is none = λ x e. none x (append_cancel_left word rest (32 ∷ x) (sym is ∙ e))
no_space_behind word text rest (Some y) is none = tt

-- the parts of a text are those at which it is cut
pub parts_of : {Front Rest : List ℕ → Type 0} (text a x : List ℕ) → IsCutAtSpace text a x → ((t : List ℕ) → Front t → LacksSpace t) → Spaced Front Rest text → Front a × Rest x
parts_of {Front} {Rest} text a x cut lacks is =
    let same = same_cut 32 a is.front x is.rest cut.lacks (lacks is.front is.front_is) (sym cut.parts ∙ is.parts) in
    (subst Front (sym same.0) is.front_is, subst Rest (sym same.1) is.rest_is)

-- a text without a space has no parts
pub no_parts : {Front Rest : List ℕ → Type 0} (text : List ℕ) → LacksSpace text → Spaced Front Rest text → ⊥
no_parts text lacks is = lacks_none 32 is.front is.rest (subst LacksSpace is.parts lacks)

-- what stands behind a word
pub rest_behind : {Rest : List ℕ → Type 0} (word text rest : List ℕ) → text ≡ word ++ 32 ∷ rest → Spaced (IsWord word) Rest text → Rest rest
rest_behind {Rest} word text rest is spaced =
    let fronts : word ++ 32 ∷ rest ≡ word ++ 32 ∷ spaced.rest = sym is ∙ spaced.parts ∙ ap (λ front. front ++ 32 ∷ spaced.rest) spaced.front_is in
    let rests = append_cancel_left word (32 ∷ rest) (32 ∷ spaced.rest) fronts in
    let same : spaced.rest ≡ rest = cc in
    subst Rest same spaced.rest_is

pub not_behind : {Rest : List ℕ → Type 0} (word text : List ℕ) → ((rest : List ℕ) → text ≢ word ++ 32 ∷ rest) → Spaced (IsWord word) Rest text → ⊥
not_behind word text none spaced = none spaced.rest (spaced.parts ∙ ap (λ front. front ++ 32 ∷ spaced.rest) spaced.front_is)

-- texts that a test tells apart are two
pub differ : (a b : List ℕ) → bytes_eq a b ≡ false → a ≢ b
differ a b told same = true≢false (sym ((bytes_eq-Decides a b).1 same) ∙ told)
