-- The least instant of a list, and the first that is at most a limit.
use Rattle.std.specs.Prelude.{◌≡◌, ℕ, ◌<◌, ◌≤◌, List, Option, None, Some, ℤ, ◌≤ℤ◌, slice_get}

-- the least instant of a list
pub record IsLeast (values : List (Option ℤ)) (at : ℤ) : Type 0 where
  pub place : ℕ
  pub here : slice_get values place ≡ Some (Some at)
  pub least : (other : ℕ) (later : ℤ) → slice_get values other ≡ Some (Some later) → at ≤ℤ later

-- there is no instant in a list
abbrev pub HasNone : List (Option ℤ) → Type 0
HasNone values = (place : ℕ) (at : ℤ) → slice_get values place ≡ Some (Some at) → ⊥

-- the instant is there, and at most the limit
abbrev pub IsAtMost : ℤ → Option ℤ → Type 0
IsAtMost limit None = ⊥
IsAtMost limit (Some at) = at ≤ℤ limit

-- the first place of a list, from one on, whose instant is at most the limit
pub record IsFirstAtMost (values : List (Option ℤ)) (from : ℕ) (limit : ℤ) (index : ℕ) : Type 0 where
  pub value : Option ℤ
  pub here : slice_get values index ≡ Some value
  pub there : IsAtMost limit value
  pub since : from ≤ index
  pub none_before : (before : ℕ) (earlier : Option ℤ) → from ≤ before → before < index → slice_get values before ≡ Some earlier → IsAtMost limit earlier → ⊥

-- no place of a list, from one on, has an instant that is at most the limit
abbrev pub HasNoneAtMost : List (Option ℤ) → ℕ → ℤ → Type 0
HasNoneAtMost values from limit = (place : ℕ) (value : Option ℤ) → from ≤ place → slice_get values place ≡ Some value → IsAtMost limit value → ⊥
