-- Rising lists of instants.
use Rattle.std.proofs.Common.{◌≡◌, ℕ, zero, suc, ◌+◌, ◌<◌, ◌⊎◌, inl, inr, List, [], ◌∷◌, ◌++◌, length, map, ℤ, ◌<ℤ◌, ◌↔◌, ◌∙◌, refl, sym, subst, arith}
use Rattle.std.specs.Prelude.{Contains}
use Rattle.std.specs.List.{AllByRecursion, range_with_len}
use Rattle.std.proofs.lemmas.List.Elements.{Contains-append_right, Contains-get_or}
use Rattle.std.proofs.lemmas.List.FromFn.{get_or-range_with_len, length-range_with_len}
use Rattle.std.proofs.lemmas.Int.{ints}
use Rattle.due_set.specs.Due.{IsRising}

pub Contains-head : {X : Type 0} (x : X) (xs : List X) → Contains (x ∷ xs) x
Contains-head x xs = (0, omega arith, refl)

pub Contains-tail : {X : Type 0} (x : X) (xs : List X) (y : X) → Contains xs y → Contains (x ∷ xs) y
Contains-tail x xs y h = Contains-append_right (x ∷ []) xs y h

pub Contains-cases : {X : Type 0} (x : X) (xs : List X) (y : X) → Contains (x ∷ xs) y → (x ≡ y) ⊎ Contains xs y
Contains-cases x xs y (zero, l, e) = inl e
Contains-cases x xs y (suc k, l, e) = inr (k, omega arith, e)

pub Contains-none : {X : Type 0} (y : X) → Contains [] y → ⊥
Contains-none y (k, l, e) = absurd (omega arith)

pub Contains-map : {X Y : Type 0} (f : X → Y) (xs : List X) (x : X) → Contains xs x → Contains (map f xs) (f x)
Contains-map f [] x h = absurd (Contains-none x h)
Contains-map f (first ∷ xs) x h = elim (Contains-cases first xs x h) [
  | inl e ↦ subst (λ y. Contains (f first ∷ map f xs) (f y)) e (Contains-head (f first) (map f xs))
  | inr more ↦ Contains-tail (f first) (map f xs) (f x) (Contains-map f xs x more)
]

pub Contains-range_with_len : (from count k : ℕ) → k < count → Contains (range_with_len from count) (from + k)
Contains-range_with_len from count k below =
    let within : k < length (range_with_len from count) = omega (arith, below, length-range_with_len from count) in
    subst (Contains (range_with_len from count)) (get_or-range_with_len from count k 0 below) (Contains-get_or (range_with_len from count) k 0 within)

-- an instant after all others may stand at the end
pub above_all : (x : ℤ) (xs : List ℤ) (y : ℤ) → AllByRecursion (λ later. x <ℤ later) xs → x <ℤ y → AllByRecursion (λ later. x <ℤ later) (xs ++ y ∷ [])
above_all x [] y all lt = (lt, tt)
above_all x (z ∷ zs) y (first, rest) lt = (first, above_all x zs y rest lt)

pub IsRising-push : (xs : List ℤ) (y : ℤ) → IsRising xs → ((x : ℤ) → Contains xs x → x <ℤ y) → IsRising (xs ++ y ∷ [])
IsRising-push [] y rising below = (tt, tt)
IsRising-push (x ∷ xs) y (first, rising) below =
    (above_all x xs y first (below x (Contains-head x xs)), IsRising-push xs y rising (λ z h. below z (Contains-tail x xs z h)))

-- what stands behind the first of a rising list is later
pub later_than_first : (x : ℤ) (xs : List ℤ) (y : ℤ) → AllByRecursion (λ later. x <ℤ later) xs → Contains xs y → x <ℤ y
later_than_first x [] y all h = absurd (Contains-none y h)
later_than_first x (z ∷ zs) y (first, rest) h =
    elim (Contains-cases z zs y h) [ inl e ↦ subst (λ (w : ℤ). x <ℤ w) e first | inr more ↦ later_than_first x zs y rest more ]

same_first : (x y : ℤ) (xs ys : List ℤ) → IsRising (x ∷ xs) → IsRising (y ∷ ys) → Contains (y ∷ ys) x → Contains (x ∷ xs) y → x ≡ y
same_first x y xs ys (above_x, _) (above_y, _) in_ys in_xs =
    elim (Contains-cases y ys x in_ys) [
      | inl e ↦ sym e
      | inr behind_y ↦ elim (Contains-cases x xs y in_xs) [
        | inl e ↦ e
        | inr behind_x ↦ absurd (not_both (later_than_first y ys x above_y behind_y) (later_than_first x xs y above_x behind_x))
      ]
    ]
  where
    not_both : y <ℤ x → x <ℤ y → ⊥
    not_both a b = omega (arith, ints)

-- a member of one tail is a member of the other
pub same_tail : (x y : ℤ) (xs ys : List ℤ) → x ≡ y → IsRising (x ∷ xs) → ((t : ℤ) → Contains (x ∷ xs) t → Contains (y ∷ ys) t) → (t : ℤ) → Contains xs t → Contains ys t
same_tail x y xs ys e (above_x, _) all t h =
    elim (Contains-cases y ys t (all t (Contains-tail x xs t h))) [
      | inl first ↦ absurd (not_itself (later_than_first x xs t above_x h) (e ∙ first))
      | inr more ↦ more
    ]
  where
    not_itself : x <ℤ t → x ≡ t → ⊥
    not_itself lt same = omega (arith, ints)

-- a rising list is given by its members
pub IsRising-same : (xs ys : List ℤ) → IsRising xs → IsRising ys → ((t : ℤ) → Contains xs t ↔ Contains ys t) → xs ≡ ys
IsRising-same [] [] a b same = refl
IsRising-same [] (y ∷ ys) a b same = absurd (Contains-none y ((same y).1 (Contains-head y ys)))
IsRising-same (x ∷ xs) [] a b same = absurd (Contains-none x ((same x).0 (Contains-head x xs)))
IsRising-same (x ∷ xs) (y ∷ ys) a b same =
    let e : x ≡ y = same_first x y xs ys a b ((same x).0 (Contains-head x xs)) ((same y).1 (Contains-head y ys)) in
    let tails : xs ≡ ys =
    IsRising-same xs ys a.1 b.1
    (λ t. (same_tail x y xs ys e a (λ u. (same u).0) t, same_tail y x ys xs (sym e) b (λ u. (same u).1) t)) in
    cc
