-- Civil minutes: minutes since 1970-01-01 00:00 of a local calendar. Source: proleptic Gregorian calendar, ISO 8601.
use Rattle.std.specs.Prelude.{ℕ, ◌/◌, ◌%◌, ℤ, pos, negsuc, ◌+ℤ◌, unsigned_abs}
use Rattle.std.specs.Int.{int_div_euclid, int_rem_euclid}
use Rattle.jiff_core.specs.Calendar.{days_from_civil, IsBetween}
use Rattle.zone_minutes.specs.Calendar.{date_of_day}
use Rattle.zone_minutes.specs.declared.civil.Civil.{Civil}

-- the number of a civil minute's day: 0 for 1970-01-01
abbrev pub day_number : ℤ → ℤ
day_number minute = int_div_euclid minute (pos 1440)

-- how far into its day a civil minute is, from 0 to 1439
abbrev pub minute_of_day : ℤ → ℕ
minute_of_day minute = unsigned_abs (int_rem_euclid minute (pos 1440))

-- the weekday of a day number, with Sunday as 0: 1970-01-01 was a Thursday
abbrev pub weekday_of : ℤ → ℕ
weekday_of day = unsigned_abs (int_rem_euclid (day +ℤ pos 4) (pos 7))

-- the day number of the first day of a day's month
abbrev pub first_of_month : ℤ → ℤ
first_of_month day =
    let date = date_of_day day in
    days_from_civil (pos date.year) date.month 1

-- the day number of the first day of a day's year
abbrev pub first_of_year : ℤ → ℤ
first_of_year day = days_from_civil (pos (date_of_day day).year) 1 1

-- the date and the time of day of a civil minute
abbrev pub civil_at : ℤ → Civil
civil_at minute =
    let date = date_of_day (day_number minute) in
    record {
      year = pos date.year;
      month = date.month;
      day = date.day;
      hour = minute_of_day minute / 60;
      minute = minute_of_day minute % 60;
    }

-- a civil minute of the years 0000 to 9999
abbrev pub IsCalendarMinute : ℤ → Type 0
IsCalendarMinute minute = IsBetween (negsuc 1_036_120_319) (pos 4_223_371_679) minute

-- a day number of the years 0000 to 9999
abbrev pub IsCalendarDay : ℤ → Type 0
IsCalendarDay day = IsBetween (negsuc 719_527) (pos 2_932_896) day
