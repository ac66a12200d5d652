-- What is in a list.
use Rattle.std.proofs.Common.{◌≡◌, ℕ, zero, suc, Some, List, [], ◌∷◌, ◌++◌, map, take, refl, ap, inl, inr, arith, subst}
use Rattle.std.specs.List.{AllZip, Contains, flat_map, slice_get}
use Rattle.std.proofs.lemmas.List.Elements.{Contains-append_cases}
use Rattle.due_set.proofs.Rising.{Contains-head as in_first, Contains-tail as in_rest, Contains-cases as cons_cases}
use Rattle.step_spec.specs.Folds.{after_acts}
use Rattle.step_spec.specs.Act.{Act, after_act}
use Rattle.step_spec.specs.State.{State}

-- nothing is in an empty list
pub nothing_in : {X : Type 0} {x : X} {P : Type 0} → Contains [] x → P
nothing_in (k, within, is) = absurd (omega (arith, within))

-- what a number finds is there
pub found_in : {X : Type 0} (xs : List X) (k : ℕ) (x : X) → slice_get xs k ≡ Some x → Contains xs x
found_in [] k x is = absurd cc
found_in (y ∷ xs) zero x is = let same : y ≡ x = cc in rw same (in_first x xs)
found_in (y ∷ xs) (suc k) x is = in_rest y xs x (found_in xs k x is)

-- what a mapped list has comes of an element
pub record CameOf {A B : Type 0} (f : A → B) (xs : List A) (y : B) : Type 0 where
  pub of : A
  pub has : Contains xs of
  pub is : f of ≡ y

pub map_came : {A B : Type 0} (f : A → B) (xs : List A) (y : B) → Contains (map f xs) y → CameOf f xs y
map_came f [] y has = nothing_in has
map_came f (x ∷ xs) y has = elim (cons_cases (f x) (map f xs) y has) [
  | inl same ↦ record { of = x; has = in_first x xs; is = same }
  | inr later ↦ let rest = map_came f xs y later in record { of = rest.of; has = in_rest x xs rest.of rest.has; is = rest.is }
]

-- the same of a list of lists
pub record CameIn {A B : Type 0} (f : A → List B) (xs : List A) (y : B) : Type 0 where
  pub of : A
  pub has : Contains xs of
  pub inside : Contains (f of) y

pub flat_came : {A B : Type 0} (f : A → List B) (xs : List A) (y : B) → Contains (flat_map f xs) y → CameIn f xs y
flat_came f [] y has = nothing_in has
flat_came f (x ∷ xs) y has = elim (Contains-append_cases (f x) (flat_map f xs) y has) [
  | inl here ↦ record { of = x; has = in_first x xs; inside = here }
  | inr later ↦ let rest = flat_came f xs y later in record { of = rest.of; has = in_rest x xs rest.of rest.has; inside = rest.inside }
]

-- what stands beside an element of a list
pub record Beside {A B : Type 0} (R : A → B → Type 0) (xs : List A) (y : B) : Type 0 where
  pub of : A
  pub has : Contains xs of
  pub is : R of y

pub zip_beside : {A B : Type 0} (R : A → B → Type 0) (xs : List A) (ys : List B) (y : B) → AllZip R xs ys → Contains ys y → Beside R xs y
zip_beside R [] [] y zips has = nothing_in has
zip_beside R [] (z ∷ ys) y zips has = absurd zips
zip_beside R (x ∷ xs) [] y zips has = absurd zips
zip_beside R (x ∷ xs) (z ∷ ys) y zips has = elim (cons_cases z ys y has) [
  | inl same ↦ record { of = x; has = in_first x xs; is = subst (λ w. R x w) same zips.0 }
  | inr later ↦ let rest = zip_beside R xs ys y zips.1 later in record { of = rest.of; has = in_rest x xs rest.of rest.has; is = rest.is }
]

-- a list up to one more of its elements
pub take_next : {X : Type 0} (xs : List X) (k : ℕ) (x : X) → slice_get xs k ≡ Some x → take (suc k) xs ≡ take k xs ++ x ∷ []
take_next [] k x is = absurd cc
take_next (y ∷ xs) zero x is = let same : y ≡ x = cc in rw same refl
take_next (y ∷ xs) (suc k) x is = ap (λ rest. y ∷ rest) (take_next xs k x is)

pub after_acts-append : (before after : List Act) (state : State) → after_acts (before ++ after) state ≡ after_acts after (after_acts before state)
after_acts-append [] after state = refl
after_acts-append (act ∷ before) after state = after_acts-append before after (after_act act state)

pub AllZip-append : {A B : Type 0} (R : A → B → Type 0) (xs ys : List A) (us vs : List B) → AllZip R xs us → AllZip R ys vs → AllZip R (xs ++ ys) (us ++ vs)
AllZip-append R [] ys [] vs first rest = rest
AllZip-append R [] ys (u ∷ us) vs first rest = absurd first
AllZip-append R (x ∷ xs) ys [] vs first rest = absurd first
AllZip-append R (x ∷ xs) ys (u ∷ us) vs first rest = (first.0, AllZip-append R xs ys us vs first.1 rest)
