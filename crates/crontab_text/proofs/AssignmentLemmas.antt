-- Lines that set a variable.
use Rattle.std.proofs.Common.{◌≡◌, ◌≢◌, ◌⊎◌, ℕ, ◌+◌, ◌-◌, ◌<◌, ◌≤◌, suc, List, [], ◌∷◌, ◌++◌, length, get_or, take, drop, refl, ap, ◌∙◌, sym, subst, inl, inr, arith, length-append}
use Rattle.std.specs.List.{AllByRecursion}
use Rattle.std.specs.Str.{IsUtf8, IsCharBoundary}
use Rattle.std.proofs.lemmas.List.{same_from_push, take_more, take_all, get_or_at}
use Rattle.std.proofs.lemmas.Str.{IsCharBoundary-before_ascii}
use Rattle.crontab_text.specs.Blanks.{IsBlank, LacksAny, MayBeginWith, IsFirstIndex, IsCutAt, SkipsBlanks, DropsBlanks}
use Rattle.crontab_text.specs.Assignment.{IsNameByte, IsNoNameByte, IsVariableName, IsQuote, HasQuotes, IsInQuotes, IsUnquoted, IsValue, IsAssignment}
use Rattle.crontab_text.proofs.ListLemmas.{same_cut_at}
use Rattle.crontab_text.proofs.BlankLemmas.{same_skip, same_drop, boundary_after_low}

small_name_byte : (c : ℕ) → IsNameByte c → c < 128
small_name_byte c (inl (inl lower)) = omega arith
small_name_byte c (inl (inr (inl upper))) = omega arith
small_name_byte c (inl (inr (inr line))) = omega arith
small_name_byte c (inr digit) = omega arith

low_name_byte : (c : ℕ) → (IsNoNameByte c → ⊥) → c < 128
low_name_byte c is = grind (arith, small_name_byte)

-- a text may be cut behind a name
pub boundary_behind_name : (text : List ℕ) (index : ℕ) → IsUtf8 text → IsFirstIndex IsNoNameByte text index → IsCharBoundary text index
boundary_behind_name text index utf8 first =
    boundary_after_low text index utf8 (omega (arith, first.inside)) (λ k below. low_name_byte _ (first.before k below))

-- a name is bytes that may stand in one, and begins with one that may begin one
pub name_lacks : (name : List ℕ) → IsVariableName name → LacksAny IsNoNameByte name
name_lacks [] is = absurd is
name_lacks (c ∷ cs) is = ((λ none. none (inl is.0)), lacks cs is.1)
  where
    lacks : (cs : List ℕ) → AllByRecursion IsNameByte cs → LacksAny IsNoNameByte cs
    lacks [] all = tt
    lacks (d ∷ ds) all = ((λ none. none all.0), lacks ds all.1)

-- a blank or `=` stands in no name
no_name_byte : (c : ℕ) → IsBlank c ⊎ (c ≡ 61) → IsNoNameByte c
no_name_byte c is name = grind (arith, small_name_byte)

-- what is behind the first quote ends with the other one
quotes_apart : (rest : List ℕ) → 0 < length rest → rest ≡ take (length rest - 1) rest ++ get_or rest (length rest - 1) 0 ∷ []
quotes_apart rest some =
    let index : length rest - 1 + 1 ≡ length rest = omega arith in
    sym (take_all (length rest) rest (omega arith)) ∙ (ap (λ n. take n rest) (sym index) ∙ take_more rest (length rest - 1) 0 (omega arith))

pub in_quotes : (text : List ℕ) → HasQuotes text → IsInQuotes text (take (length text - 1 - 1) (drop 1 text))
in_quotes [] quotes = absurd (omega (arith, quotes.two))
in_quotes (q ∷ rest) quotes =
    let two : 2 ≤ length (q ∷ rest) = quotes.two in
    let size : length (q ∷ rest) - 1 - 1 ≡ length rest - 1 = omega arith in
    let index : length (q ∷ rest) - 1 ≡ suc (length rest - 1) = omega arith in
    let last : get_or rest (length rest - 1) 0 ≡ q = ap (λ n. get_or (q ∷ rest) n 0) (sym index) ∙ quotes.last in
    record {
      quote = q;
      is_quote = quotes.first;
      parts = rw size (ap (λ t. q ∷ t) (quotes_apart rest (omega arith) ∙ ap (λ c. take (length rest - 1) rest ++ c ∷ []) last));
    }

pub has_quotes : (text inside : List ℕ) → IsInQuotes text inside → HasQuotes text
has_quotes text inside quotes =
    let q = quotes.quote in
    let size : length (q ∷ (inside ++ q ∷ [])) ≡ suc (length inside + 1) = omega (arith, length-append inside (q ∷ [])) in
    let index : length (q ∷ (inside ++ q ∷ [])) - 1 ≡ suc (length inside) = omega arith in
    rw quotes.parts (record {
      two = omega arith;
      first = quotes.is_quote;
      last = ap (λ n. get_or (q ∷ (inside ++ q ∷ [])) n 0) index ∙ get_or_at inside q [] 0 (length inside) refl;
    })

-- what is inside the quotes of a text
same_inside : (text a b : List ℕ) → IsInQuotes text a → IsInQuotes text b → a ≡ b
same_inside text a b first second =
    let whole = sym first.parts ∙ second.parts in
    let tails : a ++ first.quote ∷ [] ≡ b ++ second.quote ∷ [] = cc in
    (same_from_push a b first.quote second.quote tails).0

same_unquoted : (text a b : List ℕ) → IsUnquoted text a → IsUnquoted text b → a ≡ b
same_unquoted text a b (inl p) (inl q) = same_inside text a b p q
same_unquoted text a b (inl p) (inr q) = absurd (q.1 a p)
same_unquoted text a b (inr p) (inl q) = absurd (p.1 b q)
same_unquoted text a b (inr p) (inr q) = p.0 ∙ sym q.0

-- a text has one value
pub same_value : (text a b : List ℕ) → IsValue text a → IsValue text b → a ≡ b
same_value text a b first second =
    let rest = same_skip text first.rest second.rest first.skips second.skips in
    let trimmed = same_drop second.rest first.trimmed second.trimmed (subst (λ t. DropsBlanks t first.trimmed) rest first.drops) second.drops in
    same_unquoted second.trimmed a b (subst (λ t. IsUnquoted t a) trimmed first.unquoted) second.unquoted

-- the steps by which a text is read as an assignment
pub record AssignmentSteps (text name value : List ℕ) : Type 0 where
  pub after : List ℕ
  pub behind : List ℕ
  pub cut : IsCutAt IsNoNameByte text name after
  pub is_name : IsVariableName name
  pub between : SkipsBlanks after (61 ∷ behind)
  pub value_is : IsValue behind value

equals_is_no_blank : IsBlank 61 → ⊥
equals_is_no_blank (inl space) = omega (arith, space)
equals_is_no_blank (inr tab) = omega (arith, tab)

pub ends_name : (between behind : List ℕ) → AllByRecursion IsBlank between → MayBeginWith IsNoNameByte (between ++ 61 ∷ behind)
ends_name [] behind all = no_name_byte 61 (inr refl)
ends_name (c ∷ cs) behind all = no_name_byte c (inl all.0)

pub steps_of_assignment : (text name value : List ℕ) → IsAssignment text name value → AssignmentSteps text name value
steps_of_assignment text name value is = record {
  after = is.between ++ 61 ∷ is.behind;
  behind = is.behind;
  cut = record { parts = is.text_is; lacks = name_lacks name is.is_name; begins = ends_name is.between is.behind is.between_blank };
  is_name = is.is_name;
  between = record { blanks = is.between; parts = refl; all = is.between_blank; begins = equals_is_no_blank };
  value_is = is.value_is;
}

pub assignment_from_steps : (text name value : List ℕ) → AssignmentSteps text name value → IsAssignment text name value
assignment_from_steps text name value steps = record {
  between = steps.between.blanks;
  behind = steps.behind;
  text_is = steps.cut.parts ∙ ap (λ t. name ++ t) steps.between.parts;
  is_name = steps.is_name;
  between_blank = steps.between.all;
  value_is = steps.value_is;
}

-- a text whose name is none sets no variable
pub no_name_no_assignment : (text name after : List ℕ) → IsCutAt IsNoNameByte text name after → (IsVariableName name → ⊥) → (other value : List ℕ) → IsAssignment text other value → ⊥
no_name_no_assignment text name after cut none other value is =
    let steps = steps_of_assignment text other value is in
    none (subst IsVariableName (same_cut_at IsNoNameByte text other name steps.after after steps.cut cut).0 steps.is_name)

-- nor does one without `=` behind the name
pub no_equals_no_assignment : (text name after behind : List ℕ) → IsCutAt IsNoNameByte text name after → SkipsBlanks after behind → ((v : List ℕ) → behind ≢ 61 ∷ v) → (other value : List ℕ) → IsAssignment text other value → ⊥
no_equals_no_assignment text name after behind cut between none other value is =
    let steps = steps_of_assignment text other value is in
    let same = (same_cut_at IsNoNameByte text other name steps.after after steps.cut cut).1 in
    none steps.behind (same_skip after behind (61 ∷ steps.behind) between (subst (λ t. SkipsBlanks t (61 ∷ steps.behind)) same steps.between))

-- a text sets one variable, to one value
pub same_assignment : (text a b v w : List ℕ) → IsAssignment text a v → IsAssignment text b w → (a ≡ b) × (v ≡ w)
same_assignment text a b v w first second =
    let p = steps_of_assignment text a v first in
    let q = steps_of_assignment text b w second in
    let same = same_cut_at IsNoNameByte text a b p.after q.after p.cut q.cut in
    let tails = same_skip q.after (61 ∷ p.behind) (61 ∷ q.behind) (subst (λ t. SkipsBlanks t (61 ∷ p.behind)) same.1 p.between) q.between in
    let behind : p.behind ≡ q.behind = cc in
    (same.0, same_value q.behind v w (subst (λ t. IsValue t v) behind p.value_is) q.value_is)

small_quote : (c : ℕ) → IsQuote c → c < 128
small_quote c (inl double) = omega arith
small_quote c (inr single) = omega arith

-- a text may be cut behind its first quote and before its last one
pub boundary_behind_quote : (text : List ℕ) → IsUtf8 text → HasQuotes text → IsCharBoundary text 1
boundary_behind_quote text utf8 quotes =
    boundary_after_low text 1 utf8 (omega (arith, quotes.two)) (λ k below.
    let here : k ≡ 0 = omega arith in subst (λ n. get_or text n 0 < 128) (sym here) (small_quote _ quotes.first))

pub boundary_at_quote : (text : List ℕ) → HasQuotes text → IsCharBoundary text (length text - 1)
boundary_at_quote text quotes =
    IsCharBoundary-before_ascii text (length text - 1) (omega (arith, quotes.two)) (rw quotes.last (small_quote _ quotes.first))
