-- What a number's text may begin with.
use Rattle.std.specs.Prelude.{◌≡◌, ◌≢◌, ℕ, ◌<◌, List, length, slice_index}

-- what may begin with a digit of its own: there is no sign, and a 0 only as the one digit
pub record MayBeginNumber (text : List ℕ) : Type 0 where
  pub no_sign : slice_index text 0 ≢ 43
  pub no_zero : slice_index text 0 ≡ 48 → length text < 2
