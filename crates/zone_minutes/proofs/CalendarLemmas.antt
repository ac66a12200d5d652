-- The calendar of one day after another is the one that `jiff` counts epoch days in.
use Rattle.std.proofs.Common.{◌≡◌, ℕ, zero, suc, ◌+◌, ◌*◌, ◌/◌, ◌%◌, ◌<◌, ◌≤◌, Bool, true, false, cond, nat_lt, refl, sym, ap, subst, ◌∙◌, arith, ℤ, pos, negsuc, ◌+ℤ◌, ◌*ℤ◌, ◌≤ℤ◌, unsigned_abs}
use Rattle.std.specs.Int.{IsInRange, int_rem_euclid}
use Rattle.std.proofs.lemmas.Int.{by_lt_z}
use Rattle.std.proofs.lemmas.Bool.Decides.{nat_tests}
use Rattle.jiff_core.specs.Calendar.{days_from_civil, days_in_month, IsCivilDate}
use Rattle.jiff_core.specs.declared.civil.date.Date.{Date as JiffDate}
use Rattle.jiff_core.proofs.CalendarLemmas.{days_from_civil-day_count, day_count_bounds, day_count-day_of_year, day_count-lt_year, days_in_month_bounds}
use Rattle.jiff_core.proofs.DateLemmas.{days_from_civil-day, days_from_civil-next_month, days_from_civil-next_year, days_from_civil-max, epoch_day_injective}
use Rattle.jiff_core.proofs.MarchLemmas.{day_count-early}
use Rattle.jiff_core.proofs.SignedLemmas.{signed_arith, one_part}
use Rattle.zone_minutes.specs.Civil.{civil_at, day_number, minute_of_day, IsCalendarDay, IsCalendarMinute}
use Rattle.zone_minutes.specs.declared.civil.Civil.{Civil}
use Rattle.zone_minutes.specs.Calendar.{Date, next_month, date_after, date_of_day}

-- a date that exists, and whose day number is so many days after 0000-01-01
pub record IsDayAfter (days : ℕ) (date : Date) : Type 0 where
  pub month_in : IsInRange 1 12 date.month
  pub day_in : IsInRange 1 (days_in_month (pos date.year) date.month) date.day
  pub number : days_from_civil (pos date.year) date.month date.day +ℤ pos 719528 ≡ pos days

IsDayAfter-first : IsDayAfter 0 (record { year = 0; month = 1; day = 1 })
IsDayAfter-first = record {
  month_in = (omega arith, omega arith);
  day_in = (omega arith, omega (arith, days_in_month_bounds (pos 0) 1));
  number = omega (arith, signed_arith, days_from_civil-day_count, day_count-early (pos 0) 9999 1 1 refl (omega arith) (omega arith) (omega arith));
}

IsDayAfter-next_month : (days : ℕ) (date : Date) (b : Bool) → nat_lt date.month 12 ≡ b → date.day ≡ days_in_month (pos date.year) date.month → IsDayAfter days date → IsDayAfter (suc days) (cond b (record { year = date.year; month = date.month + 1; day = 1 }) (record { year = date.year + 1; month = 1; day = 1 }))
IsDayAfter-next_month days date true e last h =
    let lt : date.month < 12 = grind (arith, nat_tests) in
    record {
      month_in = (omega arith, omega arith);
      day_in = (omega arith, omega (arith, days_in_month_bounds (pos date.year) (date.month + 1)));
      number = omega (arith, signed_arith, h.number, days_from_civil-next_month (pos date.year) date.month date.day h.month_in.0 last);
    }
IsDayAfter-next_month days date false e last h =
    let december : date.month ≡ 12 = grind (arith, nat_tests, h.month_in) in
    let long : days_in_month (pos date.year) 12 ≡ 31 = refl in
    let end : date.day ≡ 31 = last ∙ ap (days_in_month (pos date.year)) december ∙ long in
    let number : days_from_civil (pos date.year) 12 31 +ℤ pos 719528 ≡ pos days = rw (december, end) at h.number in
    record {
      month_in = (omega arith, omega arith);
      day_in = (omega arith, omega (arith, days_in_month_bounds (pos (date.year + 1)) 1));
      number = omega (arith, signed_arith, number, days_from_civil-next_year (pos date.year) (pos (date.year + 1)) (omega (arith, signed_arith)) refl);
    }

IsDayAfter-next : (days : ℕ) (date : Date) (b : Bool) → nat_lt date.day (days_in_month (pos date.year) date.month) ≡ b → IsDayAfter days date → IsDayAfter (suc days) (cond b (record date { day = date.day + 1 }) (next_month date))
IsDayAfter-next days date true e h =
    let lt : date.day < days_in_month (pos date.year) date.month = grind (arith, nat_tests) in
    record {
      month_in = h.month_in;
      day_in = (omega arith, omega arith);
      number = omega (arith, signed_arith, h.number, days_from_civil-day (pos date.year) date.month date.day (date.day + 1) h.day_in.0 (omega arith));
    }
IsDayAfter-next days date false e h =
    let last : date.day ≡ days_in_month (pos date.year) date.month = grind (arith, nat_tests, h.day_in) in
    IsDayAfter-next_month days date _ refl last h

-- each date of the calendar exists, and has that day number
pub date_after-is_day : (days : ℕ) → IsDayAfter days (date_after days)
unfolding date_after
date_after-is_day zero = IsDayAfter-first
date_after-is_day (suc days) = IsDayAfter-next days (date_after days) _ refl (date_after-is_day days)

-- a day up to 9999-12-31 is in a year up to 9999
year_bound : (days : ℕ) (date : Date) → days ≤ 3_652_424 → IsDayAfter days date → date.year ≤ 9999
year_bound days date h is =
    by_lt_z (pos 9999) (pos date.year)
    (λ lt. absurd (omega (arith, signed_arith, is.number, days_from_civil-max, days_from_civil-day_count, day_count-lt_year (pos 9999) 12 31 (pos date.year) date.month date.day ((omega (arith, signed_arith), omega (arith, signed_arith)), (omega arith, omega arith), (omega arith, omega arith)) is.day_in.0 lt)))
    (λ le. omega (arith, signed_arith))

-- the date of a day number exists, and has that day number
pub record IsDateOfDay (day : ℤ) (date : Date) : Type 0 where
  pub civil : IsCivilDate (pos date.year) date.month date.day
  pub number : days_from_civil (pos date.year) date.month date.day ≡ day

pub date_of_day-is : (day : ℤ) → IsCalendarDay day → IsDateOfDay day (date_of_day day)
date_of_day-is day h =
    let days = unsigned_abs (day +ℤ pos 719528) in
    let is = date_after-is_day days in
    let counted : pos days ≡ day +ℤ pos 719528 = omega (arith, signed_arith, one_part (day +ℤ pos 719528)) in
    let year = year_bound days (date_after days) (omega (arith, signed_arith, counted)) is in
    record {
      civil = ((omega (arith, signed_arith), omega (arith, signed_arith)), is.month_in, is.day_in);
      number = omega (arith, signed_arith, is.number, counted);
    }

-- the date that has this day number is the calendar's
pub date_of_day-unique : (day year : ℤ) (month date_day : ℕ) → IsCalendarDay day → IsCivilDate year month date_day → days_from_civil year month date_day ≡ day
    → (year ≡ pos (date_of_day day).year) × (month ≡ (date_of_day day).month) × (date_day ≡ (date_of_day day).day)
date_of_day-unique day year month date_day h civil number =
    let date = date_of_day day in
    let is = date_of_day-is day h in
    let ours : JiffDate = record { year = year; month = month; day = date_day; year_in = civil.0; month_in = civil.1; day_in = civil.2 } in
    let theirs : JiffDate = record { year = pos date.year; month = date.month; day = date.day; year_in = is.civil.0; month_in = is.civil.1; day_in = is.civil.2 } in
    epoch_day_injective ours theirs (number ∙ sym is.number)

-- the day of a calendar minute is one of the calendar's days
pub day_number_in : (number : ℤ) → IsCalendarMinute number → IsCalendarDay (day_number number)
day_number_in number h = (omega (arith, signed_arith), omega (arith, signed_arith))

-- a civil time that has this day number and this minute of the day is the calendar's
pub civil_at-unique : (number year : ℤ) (month day : ℕ) → IsCalendarMinute number → IsCivilDate year month day → days_from_civil year month day ≡ day_number number
    → civil_at number ≡ record { year = year; month = month; day = day; hour = minute_of_day number / 60; minute = minute_of_day number % 60 }
civil_at-unique number year month day h civil same =
    let is = date_of_day-unique (day_number number) year month day (day_number_in number h) civil same in
    rw (is.0, is.1, is.2)

-- the civil time of a calendar minute: an existing date of the years from 0 on, and a time of day
pub record IsCivilTime (civil : Civil) : Type 0 where
  pub date : IsCivilDate civil.year civil.month civil.day
  pub since : pos 0 ≤ℤ civil.year
  pub hour : civil.hour < 24
  pub minute : civil.minute < 60

pub civil_at-is : (number : ℤ) → IsCalendarMinute number → IsCivilTime (civil_at number)
civil_at-is number h =
    let is = date_of_day-is (day_number number) (day_number_in number h) in
    let long : minute_of_day number < 1440 = omega (arith, signed_arith, one_part (int_rem_euclid number (pos 1440))) in
    record {
      date = is.civil;
      since = omega (arith, signed_arith);
      hour = omega arith;
      minute = omega arith;
    }

-- the bounds of a civil time that some calendar minute has
pub record IsWithinClock (civil : Civil) : Type 0 where
  pub since : pos 0 ≤ℤ civil.year
  pub month : civil.month ≤ 12
  pub day : civil.day ≤ 31
  pub hour : civil.hour ≤ 23
  pub minute : civil.minute ≤ 59

IsWithinClock-from_time : (civil : Civil) → IsCivilTime civil → IsWithinClock civil
IsWithinClock-from_time civil is =
    let long = days_in_month_bounds civil.year civil.month in
    record {
      since = is.since;
      month = is.date.1.1;
      day = omega (arith, is.date.2);
      hour = omega (arith, is.hour);
      minute = omega (arith, is.minute);
    }

pub IsCivilTime-at : (number : ℤ) (civil : Civil) → IsCalendarMinute number → civil_at number ≡ civil → IsCivilTime civil
IsCivilTime-at number civil h e = let P : Civil → Type 0 = λ c. IsCivilTime c in subst P e (civil_at-is number h)

pub IsWithinClock-at : (number : ℤ) (civil : Civil) → IsCalendarMinute number → civil_at number ≡ civil → IsWithinClock civil
IsWithinClock-at number civil h e = IsWithinClock-from_time civil (IsCivilTime-at number civil h e)

-- a calendar minute is known by its day and its minute of the day
same_minute : (a b : ℤ) → day_number a ≡ day_number b → minute_of_day a ≡ minute_of_day b → a ≡ b
same_minute a b day minute =
    omega (arith, signed_arith, day, minute, one_part (int_rem_euclid a (pos 1440)), one_part (int_rem_euclid b (pos 1440)))

-- two calendar minutes have two civil times
pub civil_at-injective : (a b : ℤ) → IsCalendarMinute a → IsCalendarMinute b → civil_at a ≡ civil_at b → a ≡ b
civil_at-injective a b in_a in_b e =
    let hour : minute_of_day a / 60 ≡ minute_of_day b / 60 = ap (λ (c : Civil). c.hour) e in
    let minute : minute_of_day a % 60 ≡ minute_of_day b % 60 = ap (λ (c : Civil). c.minute) e in
    let day_a = date_of_day-is (day_number a) (day_number_in a in_a) in
    let day_b = date_of_day-is (day_number b) (day_number_in b in_b) in
    same_minute a b (sym day_a.number ∙ ap (λ (c : Civil). days_from_civil c.year c.month c.day) e ∙ day_b.number) (omega arith)

-- no day before 0000-01-01 is in a year from 0 on
pub day_since : (year : ℤ) (month day : ℕ) → IsCivilDate year month day → pos 0 ≤ℤ year → negsuc 719_527 ≤ℤ days_from_civil year month day
day_since year month day civil since =
    by_lt_z (pos 0) year
    (λ lt. omega (arith, signed_arith, IsDayAfter-first.number, days_from_civil-day_count, day_count-lt_year (pos 0) 1 1 year month day ((omega (arith, signed_arith), omega (arith, signed_arith)), (omega arith, omega arith), (omega arith, omega arith)) civil.2.0 lt))
    (λ le. let zero_year : year ≡ pos 0 = omega (arith, signed_arith) in
    rw zero_year (omega (arith, signed_arith, IsDayAfter-first.number, days_from_civil-day_count, day_count-day_of_year (pos 0) month day civil.2.0)))

-- a civil time that exists is that of the minute which its day number and its clock give
pub civil_at-of_parts : (civil : Civil) (number : ℤ) → IsCivilTime civil → number ≡ days_from_civil civil.year civil.month civil.day *ℤ pos 1440 +ℤ pos (civil.hour * 60 + civil.minute)
    → IsCalendarMinute number × (civil_at number ≡ civil)
civil_at-of_parts civil number is e =
    let day = days_from_civil civil.year civil.month civil.day in
    let minute = civil.hour * 60 + civil.minute in
    let since = day_since civil.year civil.month civil.day is.date is.since in
    let until : day ≤ℤ pos 2_932_896 = omega (arith, signed_arith, days_from_civil-day_count, day_count_bounds civil.year civil.month civil.day is.date) in
    let clock : minute < 1440 = omega (arith, is.hour, is.minute) in
    let in_range : IsCalendarMinute number = (omega (arith, signed_arith, e), omega (arith, signed_arith, e)) in
    let same_day : day_number number ≡ day = omega (arith, signed_arith, e) in
    let same_clock : minute_of_day number ≡ minute = omega (arith, signed_arith, e, one_part (int_rem_euclid number (pos 1440))) in
    let hour : minute / 60 ≡ civil.hour = omega (arith, is.minute) in
    let rest : minute % 60 ≡ civil.minute = omega (arith, is.minute) in
    (in_range, civil_at-unique number civil.year civil.month civil.day in_range is.date (sym same_day) ∙ rw (same_clock, hour, rest) refl)
