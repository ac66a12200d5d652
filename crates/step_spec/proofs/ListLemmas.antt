-- Lists: what maps and filters keep, and what is found.
use Rattle.std.proofs.Common.{◌≡◌, ℕ, ◌+◌, ◌-◌, Bool, true, false, cond, List, [], ◌∷◌, map, inl, inr, ap, ◌∙◌, subst, arith, zero, suc, Some, ◌++◌, ◌<◌, ◌≤◌, length, sym}
use Rattle.std.specs.Prelude.{Contains, filter}
use Rattle.std.proofs.lemmas.List.Elements.{All-contains, All-contains_itself, All-filter}
use Rattle.due_set.proofs.Rising.{Contains-head, Contains-tail, Contains-cases, Contains-none}
use Rattle.std.specs.List.{slice_get, range_with_len, slice_index_or, remove}
use Rattle.due_set.specs.Table.{Table}
use Rattle.paxos_base.specs.declared.entry.Entry.{Entry}
use Rattle.paxos_base.specs.declared.rows.JobRow.{JobRow}
use Rattle.launch_machine.specs.Clerk.{AppliesAll}
use Rattle.std.proofs.lemmas.List.FromFn.{length-range_with_len, get_or-range_with_len}

pub kept_first : {X : Type 0} (b : Bool) (x : X) (xs : List X) → b ≡ true → Contains (cond b (x ∷ xs) xs) x
kept_first true x xs is = Contains-head x xs
kept_first false x xs is = absurd cc

pub kept_behind : {X : Type 0} (b : Bool) (first : X) (xs : List X) (x : X) → Contains xs x → Contains (cond b (first ∷ xs) xs) x
kept_behind true first xs x has = Contains-tail first xs x has
kept_behind false first xs x has = has

-- what passes is kept
pub in_filter : {X : Type 0} (p : X → Bool) (xs : List X) (x : X) → p x ≡ true → Contains xs x → Contains (filter p xs) x
in_filter p [] x passes has = absurd (Contains-none x has)
in_filter p (first ∷ xs) x passes has = elim (Contains-cases first xs x has) [
  | inl same ↦ subst (λ y. Contains (filter p (first ∷ xs)) y) same (kept_first (p first) first (filter p xs) (ap p same ∙ passes))
  | inr more ↦ kept_behind (p first) first (filter p xs) x (in_filter p xs x passes more)
]

-- what is kept was there
pub from_filter : {X : Type 0} (p : X → Bool) (xs : List X) (x : X) → Contains (filter p xs) x → Contains xs x
from_filter p xs x has = All-contains (Contains xs) (filter p xs) x (All-filter p (Contains xs) xs (All-contains_itself xs)) has

pub found_still : {X : Type 0} (xs ys : List X) (k : ℕ) (x : X) → slice_get xs k ≡ Some x → slice_get (xs ++ ys) k ≡ Some x
found_still [] ys k x is = absurd cc
found_still (y ∷ xs) ys zero x is = is
found_still (y ∷ xs) ys (suc k) x is = found_still xs ys k x is

pub applied_append : (table : Table) (first middle last : List JobRow) (xs ys : List Entry) → AppliesAll table first xs middle → AppliesAll table middle ys last → AppliesAll table first (xs ++ ys) last
applied_append table first middle last [] ys front back = subst (λ rows. AppliesAll table rows ys last) front back
applied_append table first middle last (x ∷ xs) ys (next, applies, rest) back = (next, applies, applied_append table next middle last xs ys rest back)

pub nothing_found : {X : Type 0} {x : X} (k : ℕ) → slice_get [] k ≡ Some x → ⊥
nothing_found k is = cc

pub in_range_from : (first count number : ℕ) → first ≤ number → number < first + count → Contains (range_with_len first count) number
in_range_from first count number from below =
    let long = length-range_with_len first count in
    (number - first, omega arith, get_or-range_with_len first count (number - first) number (omega arith) ∙ omega arith)

-- a member of a map, and a member that it is the image of
pub record IsMapped {X Y : Type 0} (f : X → Y) (xs : List X) (y : Y) : Type 0 where
  pub origin : X
  pub among : Contains xs origin
  pub is : f origin ≡ y

pub from_map : {X Y : Type 0} (f : X → Y) (xs : List X) (y : Y) → Contains (map f xs) y → IsMapped f xs y
from_map f [] y has = absurd (Contains-none y has)
from_map f (first ∷ xs) y has = elim (Contains-cases (f first) (map f xs) y has) [
  | inl same ↦ record { origin = first; among = Contains-head first xs; is = same }
  | inr more ↦ (let rest = from_map f xs y more in record { origin = rest.origin; among = Contains-tail first xs rest.origin rest.among; is = rest.is })
]

pub mapped_at : {X Y : Type 0} (f : X → Y) (xs : List X) (place : ℕ) (x : X) → slice_get xs place ≡ Some x → slice_get (map f xs) place ≡ Some (f x)
mapped_at f [] place x is = absurd cc
mapped_at f (y ∷ ys) zero x is = ap (λ z. Some (f z)) (let same : y ≡ x = cc in same)
mapped_at f (y ∷ ys) (suc place) x is = mapped_at f ys place x is

pub first_left : {X : Type 0} (left : List X) (x : X) → 0 < length left → x ≡ slice_index_or left 0 x → left ≡ x ∷ remove left 0
first_left [] x some is = absurd (omega (arith, some))
first_left (first ∷ rest) x some is = ap (λ y. y ∷ rest) (sym is)
