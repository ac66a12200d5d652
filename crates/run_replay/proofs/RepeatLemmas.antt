-- Letters that join their mail once more.
use Rattle.std.proofs.Common.{◌≡◌, ◌≢◌, ℕ, true, false, eqb, not, ◌==◌, if◌then◌else◌, List, [], ◌∷◌, ◌++◌, length, filter, take, get_or, ◌+◌, ◌<◌, eq-eqb, refl, sym, ap, ◌∙◌, inl, inr, add-one, append-nil as append_nil}
use Rattle.std.specs.List.{list_any, slice_get}
use Rattle.std.specs.Prelude.{nat_eq}
use Rattle.indexmap.specs.IndexSet.{insert_key}
use Rattle.std.proofs.Math.Seq.{take-suc}
use Rattle.std.proofs.lemmas.Bool.{cases_Bool, eqb-true, ne_eqb}
use Rattle.std.proofs.lemmas.List.Elements.{filter-append}
use Rattle.history.specs.Book.{PostedLetter}
use Rattle.script_semantics.specs.Commands.{each_once, from_one, has_number, is_from}

-- ---- each number once

same_has : (y x : ℕ) (xs : List ℕ) → y ≢ x → has_number x (filter (λ other. not (eqb other y)) xs) ≡ has_number x xs
same_has y x [] differs = refl
same_has y x (z ∷ xs) differs = elim (cases_Bool (eqb z y)) [
  | inl same ↦
      let other : eqb z x ≡ false = ne_eqb z x (λ is. differs (sym (eqb-true z y same) ∙ is)) in
      rw (same, other) (same_has y x xs differs)
  | inr not_same ↦ rw not_same (ap (λ b. if eqb z x then true else b) (same_has y x xs differs))
]

-- one number more, where it isn't among them yet
once_next : (xs : List ℕ) (x : ℕ) → each_once (xs ++ x ∷ []) ≡ (if has_number x (each_once xs) then each_once xs else each_once xs ++ x ∷ [])
once_next [] x = refl
once_next (y ∷ ys) x = elim (cases_Bool (eqb y x)) [
  | inl same ↦ rw same (ap (λ more. y ∷ more) (ap (filter (λ other. not (eqb other y))) (once_next ys x) ∙ (elim (cases_Bool (has_number x (each_once ys))) [
    | inl has ↦ rw has refl
    | inr hasnt ↦ rw hasnt (filter-append (λ other. not (eqb other y)) (each_once ys) (x ∷ []) ∙ (let mine : eqb x y ≡ true = eq-eqb x y (sym (eqb-true y x same)) in rw mine (append_nil _)))
  ])))
  | inr differs ↦
      let apart : y ≢ x = λ is. (let e = eq-eqb y x is in cc) in
      let other : eqb x y ≡ false = ne_eqb x y (λ is. apart (sym is)) in
      rw (differs, same_has y x (each_once ys) apart) (ap (λ more. y ∷ more) (ap (filter (λ other. not (eqb other y))) (once_next ys x)) ∙ (elim (cases_Bool (has_number x (each_once ys))) [
        | inl has ↦ rw has refl
        | inr hasnt ↦ rw hasnt (ap (λ more. y ∷ more) (filter-append (λ other. not (eqb other y)) (each_once ys) (x ∷ []) ∙ rw other refl))
      ]))
]

from_next : (posted : List PostedLetter) (who : ℕ) (xs : List ℕ) (x : ℕ) → from_one posted who (xs ++ x ∷ []) ≡ from_one posted who xs ++ (if is_from who (slice_get posted x) then x ∷ [] else [])
from_next posted who xs x = filter-append (λ number. is_from who (slice_get posted number)) xs (x ∷ [])

-- a set has a number just where the list of its numbers does
any_like : (number : ℕ) (numbers : List ℕ) → list_any (nat_eq number) numbers ≡ has_number number numbers
any_like number [] = refl
any_like number (first ∷ numbers) = elim (cases_Bool (eqb first number)) [
  | inl same ↦ (let mine : eqb number first ≡ true = eq-eqb number first (sym (eqb-true first number same)) in rw (same, mine) refl)
  | inr differs ↦
      let apart : first ≢ number = λ is. (let e = eq-eqb first number is in cc) in
      let mine : eqb number first ≡ false = ne_eqb number first (λ is. apart (sym is)) in
      rw (differs, mine) (any_like number numbers)
]

pub one_more : (mail : List ℕ) (place : ℕ) → place < length mail → take (place + 1) mail ≡ take place mail ++ get_or mail place 0 ∷ []
one_more mail place below = ap (λ n. take n mail) (add-one place) ∙ take-suc mail place 0 below

module _ (posted : List PostedLetter) (who : ℕ) (mail : List ℕ) (place : ℕ) (below : place < length mail) (found : List ℕ) (so_far : found ≡ each_once (from_one posted who (take place mail))) where
  next_mail : from_one posted who (take (place + 1) mail) ≡ from_one posted who (take place mail) ++ (if is_from who (slice_get posted (get_or mail place 0)) then get_or mail place 0 ∷ [] else [])
  next_mail = ap (from_one posted who) (one_more mail place below) ∙ from_next posted who (take place mail) (get_or mail place 0)

  -- the next letter of a mail is found once, or isn't from the replica
  pub found_next : is_from who (slice_get posted (get_or mail place 0)) ≡ true → insert_key nat_eq found (get_or mail place 0) ≡ each_once (from_one posted who (take (place + 1) mail))
  found_next is =
      let number = get_or mail place 0 in
      let before = each_once (from_one posted who (take place mail)) in
      ap (λ found. insert_key nat_eq found number) so_far
      ∙ ap (λ b. if b then before else before ++ number ∷ []) (any_like number before)
      ∙ sym (ap each_once next_mail ∙ rw is (once_next (from_one posted who (take place mail)) number))

  pub passed_next : is_from who (slice_get posted (get_or mail place 0)) ≡ false → found ≡ each_once (from_one posted who (take (place + 1) mail))
  passed_next isnt = so_far ∙ sym (ap each_once (next_mail ∙ rw isnt (append_nil _)))

-- ---- a number among others

pub any_number : (number : ℕ) (numbers : List ℕ) → list_any (λ other. other == number) numbers ≡ has_number number numbers
any_number number [] = refl
any_number number (first ∷ numbers) = elim (cases_Bool (first == number)) [
  | inl same ↦ rw same refl
  | inr differs ↦ rw differs (any_number number numbers)
]
