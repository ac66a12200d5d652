-- The first of a job's due instants.
use Rattle.std.proofs.Common.{◌≡◌, List, [], ◌∷◌, ◌++◌, ℕ, ℤ, ◌<ℤ◌, ◌≤ℤ◌, inl, inr, refl, arith}
use Rattle.std.specs.Prelude.{Contains}
use Rattle.std.proofs.lemmas.Int.{ints}
use Rattle.due_set.specs.Due.{IsRising}
use Rattle.due_set.specs.Table.{Table, IsDueFront, IsJobDueList}
use Rattle.due_set.proofs.Rising.{Contains-head, Contains-tail, Contains-cases, Contains-none, later_than_first, same_tail}

-- a member of a rising list is not before its first
not_before_first : (x : ℤ) (xs : List ℤ) (t : ℤ) → IsRising (x ∷ xs) → Contains (x ∷ xs) t → x ≤ℤ t
not_before_first x xs t rising h = elim (Contains-cases x xs t h) [
  | inl e ↦ omega (arith, ints)
  | inr behind ↦ let lt : x <ℤ t = later_than_first x xs t rising.0 behind in omega (arith, ints)
]

-- a rising list that leaves out none of another's members up to its own last one is the other's beginning
pub rising_prefix : (xs ys : List ℤ) → IsRising xs → IsRising ys → ((t : ℤ) → Contains xs t → Contains ys t)
    → ((t last : ℤ) → Contains xs last → Contains ys t → t ≤ℤ last → Contains xs t) → (rest : List ℤ) × (ys ≡ xs ++ rest)
rising_prefix [] ys a b within none_left = (ys, refl)
rising_prefix (x ∷ xs) [] a b within none_left = absurd (Contains-none x (within x (Contains-head x xs)))
rising_prefix (x ∷ xs) (y ∷ ys) a b within none_left =
    let le : y ≤ℤ x = not_before_first y ys x b (within x (Contains-head x xs)) in
    let ge : x ≤ℤ y = not_before_first x xs y a (none_left y x (Contains-head x xs) (Contains-head y ys) le) in
    let first : x ≡ y = omega (arith, ints) in
    let more = rising_prefix xs ys a.1 b.1 (same_tail x y xs ys first a within) (λ t last h in_ys before. behind t last first h in_ys before) in
    let tails : ys ≡ xs ++ more.0 = more.1 in
    (more.0, cc)
  where
    behind : (t last : ℤ) → x ≡ y → Contains xs last → Contains ys t → t ≤ℤ last → Contains xs t
    behind t last first h in_ys before = elim (Contains-cases x xs t (none_left t last (Contains-tail x xs last h) (Contains-tail y ys t in_ys) before)) [
      | inl e ↦ let lt : y <ℤ t = later_than_first y ys t b.0 in_ys in absurd (omega (arith, ints))
      | inr more ↦ more
    ]

-- the first due instants are the beginning of the list of all
pub front_prefix : (table : Table) (version job : ℕ) (instants dues : List ℤ) → IsDueFront table version job instants → IsJobDueList table version job dues
    → (rest : List ℤ) × (dues ≡ instants ++ rest)
front_prefix table version job instants dues front list =
    rising_prefix instants dues front.rising list.rising (λ t h. list.complete t (front.sound t h))
    (λ t last h in_dues le. front.complete t last h (list.sound t in_dues) le)
