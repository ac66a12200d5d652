-- The texts of a civil minute, by ISO 8601: extended, as 2024-03-31T01:00Z, and basic, as 20240331T0100Z. The text of a day
-- is 2024-03-31.
use Rattle.std.specs.Prelude.{ℕ, ◌+◌, ◌/◌, ◌%◌, ◌<◌, List, [], ◌∷◌, ◌++◌, ℤ, pos, ◌≤ℤ◌, unsigned_abs, ◌≡◌, length, slice_index}
use Rattle.zone_minutes.specs.Calendar.{Date, date_of_day}
use Rattle.zone_minutes.specs.Civil.{civil_at}
use Rattle.zone_minutes.specs.declared.civil.Civil.{Civil}

-- a number below 100 as two digits
abbrev pub two_digits : ℕ → List ℕ
two_digits n = (48 + n / 10) ∷ (48 + n % 10) ∷ []

-- a number below 10000 as four digits
abbrev pub four_digits : ℕ → List ℕ
four_digits n = two_digits (n / 100) ++ two_digits (n % 100)

-- YYYY-MM-DDTHH:MMZ
abbrev pub extended_text : Civil → List ℕ
extended_text civil =
    four_digits (unsigned_abs civil.year) ++ (45 ∷ two_digits civil.month) ++ (45 ∷ two_digits civil.day)
    ++ (84 ∷ two_digits civil.hour) ++ (58 ∷ two_digits civil.minute) ++ 90 ∷ []

-- YYYYMMDDTHHMMZ
abbrev pub basic_text : Civil → List ℕ
basic_text civil =
    four_digits (unsigned_abs civil.year) ++ two_digits civil.month ++ two_digits civil.day
    ++ (84 ∷ two_digits civil.hour) ++ two_digits civil.minute ++ 90 ∷ []

-- the stamp of an instant
unfoldable pub stamp_text : ℤ → List ℕ
stamp_text instant = extended_text (civil_at instant)

-- the stamp of an instant as names have it, with no marks between the numbers
unfoldable pub basic_stamp_text : ℤ → List ℕ
basic_stamp_text instant = basic_text (civil_at instant)

-- YYYY-MM-DD
abbrev pub calendar_text : Date → List ℕ
calendar_text date = four_digits date.year ++ (45 ∷ two_digits date.month) ++ 45 ∷ two_digits date.day

-- the text of a day number, which is that of its date
unfoldable pub date_text : ℤ → List ℕ
date_text day = calendar_text (date_of_day day)

-- a civil time whose numbers have as many digits as a stamp has
pub record IsStampable (civil : Civil) : Type 0 where
  pub since : pos 0 ≤ℤ civil.year
  pub until : civil.year ≤ℤ pos 9999
  pub month : civil.month < 100
  pub day : civil.day < 100
  pub hour : civil.hour < 100
  pub minute : civil.minute < 100

-- the two bytes from that place on are the digits of the number
pub record HasTwoDigits (bytes : List ℕ) (place number : ℕ) : Type 0 where
  pub small : number < 100
  pub tens : slice_index bytes place ≡ 48 + number / 10
  pub units : slice_index bytes (place + 1) ≡ 48 + number % 10

-- the bytes are as many as a stamp's, with its marks between the numbers
pub record HasMarks (bytes : List ℕ) : Type 0 where
  pub long : length bytes ≡ 17
  pub before_month : slice_index bytes 4 ≡ 45
  pub before_day : slice_index bytes 7 ≡ 45
  pub before_hour : slice_index bytes 10 ≡ 84
  pub before_minute : slice_index bytes 13 ≡ 58
  pub at_end : slice_index bytes 16 ≡ 90
