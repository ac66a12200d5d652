-- Numbers in decimal, of any length and without a sign or a leading zero. Source: docs/FORMATS.md.
use Rattle.std.specs.Prelude.{◌≡◌, ℕ, ◌<◌, ◌≤◌, ◌^◌, List, length, slice_index}
use Rattle.std.specs.List.{AllByRecursion}
use Rattle.std.specs.Str.Parse.{digits_value}
use Rattle.journal_line.specs.declared.line.Count.{Count}
use Rattle.journal_line.specs.declared.line.Count.TheVariants.{Number, Larger}

-- a digit from 0 to 9
abbrev pub IsDigit : ℕ → Type 0
IsDigit byte = (48 ≤ byte) × (byte ≤ 57)

-- digits, of which a 0 is the first only if it is the only one
pub record IsDecimal (text : List ℕ) : Type 0 where
  pub some : 0 < length text
  pub digits : AllByRecursion IsDigit text
  pub no_zero : slice_index text 0 ≡ 48 → length text ≡ 1

-- what is told of a number: which it is, if it is below 2^64
abbrev pub IsOf : Count → ℕ → Type 0
IsOf (Number n) value = (n < 2 ^ 64) × (value ≡ n)
IsOf Larger value = 2 ^ 64 ≤ value

-- the text is that of the number
pub record IsCountText (count : Count) (text : List ℕ) : Type 0 where
  pub decimal : IsDecimal text
  pub value : IsOf count (digits_value 10 text)
