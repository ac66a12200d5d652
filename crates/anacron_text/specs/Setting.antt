-- A line of an anacrontab that sets a variable (anacrontab(5) of cronie): `name=value`.
use Rattle.std.specs.Prelude.{◌≡◌, ℕ, ◌-◌, List, length}
use Rattle.std.proofs.Common.{inl, inr}
use Rattle.crontab_text.specs.Assignment.{IsAssignment, IsValue, IsUnquoted}
use Rattle.anacron_text.specs.Spaced.{spaced, IsPartWithin}

-- how many bytes of a text stand before what is inside its quotes
abbrev pub quotes_before : (text inside : List ℕ) → IsUnquoted text inside → ℕ
quotes_before text inside (inl quoted) = 1
quotes_before text inside (inr plain) = 0

-- how many bytes of a text stand from its value on
abbrev pub bytes_from_value : (text value : List ℕ) → IsValue text value → ℕ
bytes_from_value text value is = length is.rest - quotes_before is.trimmed value is.unquoted

-- A value is read in the text with spaces, and it's what is written there. From its first byte on the text has so many bytes.
pub record IsPlacedValue (text value : List ℕ) (left : ℕ) : Type 0 where
  pub read : List ℕ
  pub is : IsValue (spaced text) read
  pub left_is : left ≡ bytes_from_value (spaced text) read is
  pub stands : IsPartWithin text value left
  pub length_is : length value ≡ length read

-- The text with spaces sets the variable to a value, and the value is what is written there. From its first byte on the
-- text has so many bytes.
pub record IsSetting (text name value : List ℕ) (left : ℕ) : Type 0 where
  pub read : List ℕ
  pub is : IsAssignment (spaced text) name read
  pub left_is : left ≡ bytes_from_value is.behind read is.value_is
  pub stands : IsPartWithin text value left
  pub length_is : length value ≡ length read
