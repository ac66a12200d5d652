-- The lesser of two instants, and limits.
use Rattle.std.proofs.Common.{◌≡◌, ◌⊎◌, inl, inr, Option, None, Some, ℤ, ◌≤ℤ◌, refl, sym, subst, arith}
use Rattle.std.proofs.lemmas.Int.{ints}
use Rattle.min_tree.specs.Least.{IsAtMost}
use Rattle.min_tree.specs.Nodes.{IsLesser}

-- where the left one is at most a limit, so is the lesser
pub lesser_left : (left right least : Option ℤ) (limit : ℤ) → IsLesser left right least → IsAtMost limit left → IsAtMost limit least
lesser_left None right least limit lesser most = absurd most
lesser_left (Some at) right None limit lesser most = let none : Some at ≡ None = lesser.0 in absurd cc
lesser_left (Some at) right (Some least) limit lesser most = let first : least ≤ℤ at = lesser.1 at refl in omega (arith, ints)

-- where the right one is at most a limit, so is the lesser
pub lesser_right : (left right least : Option ℤ) (limit : ℤ) → IsLesser left right least → IsAtMost limit right → IsAtMost limit least
lesser_right left None least limit lesser most = absurd most
lesser_right left (Some at) None limit lesser most = let none : Some at ≡ None = lesser.1 in absurd cc
lesser_right left (Some at) (Some least) limit lesser most = let first : least ≤ℤ at = lesser.2 at refl in omega (arith, ints)

-- where the lesser is at most a limit, so is one of the two
pub lesser_either : (left right least : Option ℤ) (limit : ℤ) → IsLesser left right least → IsAtMost limit least → IsAtMost limit left ⊎ IsAtMost limit right
lesser_either left right None limit lesser most = absurd most
lesser_either left right (Some least) limit lesser most = elim lesser.0 [
  | inl e ↦ inl (subst (IsAtMost limit) (sym e) most)
  | inr e ↦ inr (subst (IsAtMost limit) (sym e) most)
]
