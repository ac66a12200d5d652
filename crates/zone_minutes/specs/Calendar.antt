-- The proleptic Gregorian calendar as one day after another. The year before 1 is 0.
-- Source: proleptic Gregorian calendar, ISO 8601.
use Rattle.std.specs.Prelude.{◌≡◌, ◌⊎◌, ℕ, zero, suc, ◌+◌, ◌<◌, nat_lt, if◌then◌else◌, ℤ, pos, ◌+ℤ◌, unsigned_abs}
use Rattle.jiff_core.specs.Calendar.{days_in_month}

-- a day of the calendar, in a year from 0 on
pub record Date : Type 0 where
  pub year : ℕ
  pub month : ℕ
  pub day : ℕ

-- a month follows a month, and a year a December
abbrev pub next_month : Date → Date
next_month date =
    if nat_lt date.month 12 then record { year = date.year; month = date.month + 1; day = 1 }
    else record { year = date.year + 1; month = 1; day = 1 }

-- the day after a day
abbrev pub next_date : Date → Date
next_date date =
    if nat_lt date.day (days_in_month (pos date.year) date.month) then record date { day = date.day + 1 }
    else next_month date

-- the date that many days after 0000-01-01
unfoldable pub date_after : ℕ → Date
date_after zero = record { year = 0; month = 1; day = 1 }
date_after (suc days) = next_date (date_after days)

-- the date of a day number, counted from 1970-01-01, which is 719,528 days after 0000-01-01
abbrev pub date_of_day : ℤ → Date
date_of_day day = date_after (unsigned_abs (day +ℤ pos 719528))

-- the second date is in a later month than the first: in a later year, or in a later month of the same year
abbrev pub IsInLaterMonth : Date → Date → Type 0
IsInLaterMonth a b = (a.year < b.year) ⊎ ((a.year ≡ b.year) × (a.month < b.month))
