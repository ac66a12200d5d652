-- What lists that were mapped, filtered or joined contain.
use Rattle.std.proofs.Common.{◌≡◌, ℕ, ◌+◌, ◌<◌, ◌≤◌, Bool, true, cond, List, [], ◌∷◌, inl, inr, sym, ap, ◌∙◌, subst, arith}
use Rattle.std.specs.Prelude.{Contains, flat_map, filter}
use Rattle.std.specs.List.{range_with_len}
use Rattle.std.proofs.lemmas.Bool.{cases_Bool}
use Rattle.std.proofs.lemmas.List.FromFn.{length-range_with_len, get_or-range_with_len}
use Rattle.std.proofs.lemmas.List.Elements.{Contains-append_left, Contains-append_right, Contains-append_cases}
use Rattle.due_set.proofs.Rising.{Contains-head, Contains-tail, Contains-cases, Contains-none}

pub in_range : (members who : ℕ) → who < members → Contains (range_with_len 0 members) who
in_range members who member =
    let long = length-range_with_len 0 members in
    (who, omega arith, get_or-range_with_len 0 members who who member ∙ omega arith)

pub from_range : (first count number : ℕ) → Contains (range_with_len first count) number → (first ≤ number) × (number < first + count)
from_range first count number (k, within, at) =
    let long = length-range_with_len first count in
    let is = get_or-range_with_len first count k number (omega arith) in
    (omega arith, omega arith)

-- a member, and the list of it that has an item
pub record IsJoined {X A : Type 0} (f : X → List A) (xs : List X) (a : A) : Type 0 where
  pub origin : X
  pub among : Contains xs origin
  pub has : Contains (f origin) a

pub in_flat_map : {X A : Type 0} (f : X → List A) (xs : List X) (x : X) (a : A) → Contains xs x → Contains (f x) a → Contains (flat_map f xs) a
in_flat_map f [] x a among has = absurd (Contains-none x among)
in_flat_map f (first ∷ xs) x a among has = elim (Contains-cases first xs x among) [
  | inl same ↦ Contains-append_left (f first) (flat_map f xs) a (subst (λ y. Contains (f y) a) (sym same) has)
  | inr more ↦ Contains-append_right (f first) (flat_map f xs) a (in_flat_map f xs x a more has)
]

pub from_flat_map : {X A : Type 0} (f : X → List A) (xs : List X) (a : A) → Contains (flat_map f xs) a → IsJoined f xs a
from_flat_map f [] a has = absurd (Contains-none a has)
from_flat_map f (first ∷ xs) a has = elim (Contains-append_cases (f first) (flat_map f xs) a has) [
  | inl here ↦ record { origin = first; among = Contains-head first xs; has = here }
  | inr more ↦ (let rest = from_flat_map f xs a more in record { origin = rest.origin; among = Contains-tail first xs rest.origin rest.among; has = rest.has })
]

-- what is kept passes
pub passes_filter : {X : Type 0} (p : X → Bool) (xs : List X) (x : X) → Contains (filter p xs) x → p x ≡ true
passes_filter p [] x has = absurd (Contains-none x has)
passes_filter p (first ∷ xs) x has = elim (cases_Bool (p first)) [
  | inl is ↦ elim (Contains-cases first (filter p xs) x (subst (λ b. Contains (cond b (first ∷ filter p xs) (filter p xs)) x) is has)) [
    | inl same ↦ ap p (sym same) ∙ is
    | inr more ↦ passes_filter p xs x more
  ]
  | inr is ↦ passes_filter p xs x (subst (λ b. Contains (cond b (first ∷ filter p xs) (filter p xs)) x) is has)
]
