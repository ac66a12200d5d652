-- What the least instant of a list says of all.
use Rattle.std.proofs.Common.{ℕ, List, Option, None, Some, ℤ, ◌≤ℤ◌, arith}
use Rattle.std.specs.Prelude.{IfSome, IfNone}
use Rattle.std.proofs.lemmas.Int.{ints}
use Rattle.min_tree.specs.Least.{IsAtMost, IsLeast, HasNone, HasNoneAtMost}

-- where the least is not at most a limit, none is
pub none_at_most : (values : List (Option ℤ)) (from : ℕ) (limit : ℤ) (least : Option ℤ) → IfSome least (IsLeast values) → IfNone least (HasNone values)
    → (IsAtMost limit least → ⊥) → HasNoneAtMost values from limit
none_at_most values from limit least found none over place None since here most = most
none_at_most values from limit None found none over place (Some at) since here most = none place at here
none_at_most values from limit (Some least) found none over place (Some at) since here most =
    let first : least ≤ℤ at = found.least place at here in
    over (omega (arith, ints))
