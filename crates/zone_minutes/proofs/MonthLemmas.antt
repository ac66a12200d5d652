-- The first days of months and years: how far a day is from them, and which days are before them.
use Rattle.std.proofs.Common.{◌≡◌, ◌↔◌, ◌⊎◌, inl, inr, ℕ, ◌<◌, refl, sym, ap, arith, ℤ, pos, ◌+ℤ◌, ◌<ℤ◌, ◌≤ℤ◌}
use Rattle.std.proofs.lemmas.Bool.{cases_order}
use Rattle.jiff_core.specs.Calendar.{day_of_year, days_from_civil, IsCivilDate}
use Rattle.jiff_core.proofs.CalendarLemmas.{days_from_civil-day_count, day_count-day_of_year, day_count-lt_month, day_count-lt_year, days_in_month_bounds}
use Rattle.jiff_core.proofs.DateLemmas.{days_from_civil-day}
use Rattle.jiff_core.proofs.SignedLemmas.{signed_arith}
use Rattle.zone_minutes.specs.Calendar.{Date, date_of_day, IsInLaterMonth}
use Rattle.zone_minutes.specs.Civil.{first_of_month, first_of_year, IsCalendarDay}
use Rattle.zone_minutes.proofs.CalendarLemmas.{date_of_day-is, date_of_day-unique, day_since}

-- the day of a month is counted from its first day
pub first_of_month-counted : (day year : ℤ) (month date_day : ℕ) → IsCalendarDay day → IsCivilDate year month date_day → days_from_civil year month date_day ≡ day
    → first_of_month day +ℤ pos date_day ≡ day +ℤ pos 1
first_of_month-counted day year month date_day h exists number =
    let same = date_of_day-unique day year month date_day h exists number in
    let counted : days_from_civil year month 1 +ℤ pos date_day ≡ day +ℤ pos 1 = omega (arith, signed_arith, number, days_from_civil-day year month date_day 1 exists.2.0 (omega arith)) in
    rw (← same.0, ← same.1) counted

-- the day of a year is counted from its first day
pub first_of_year-counted : (day year : ℤ) (month date_day : ℕ) → IsCalendarDay day → IsCivilDate year month date_day → days_from_civil year month date_day ≡ day
    → first_of_year day +ℤ pos (day_of_year year month date_day) ≡ day +ℤ pos 1
first_of_year-counted day year month date_day h exists number =
    let same = date_of_day-unique day year month date_day h exists number in
    let counted : days_from_civil year 1 1 +ℤ pos (day_of_year year month date_day) ≡ day +ℤ pos 1 = omega (arith, signed_arith, number, days_from_civil-day_count, day_count-day_of_year year month date_day exists.2.0) in
    rw (← same.0) counted

first_exists : (year : ℤ) (month day : ℕ) → IsCivilDate year month day → IsCivilDate year month 1
first_exists year month day exists = (exists.0, exists.1, (omega arith, omega (arith, days_in_month_bounds year month)))

january_exists : (year : ℤ) (month day : ℕ) → IsCivilDate year month day → IsCivilDate year 1 1
january_exists year month day exists = (exists.0, (omega arith, omega arith), (omega arith, omega (arith, days_in_month_bounds year 1)))

-- the first day of a month is no later than the month's days, and is of the calendar
pub first_of_month-in : (day : ℤ) → IsCalendarDay day → IsCalendarDay (first_of_month day) × (first_of_month day ≤ℤ day)
first_of_month-in day h =
    let date = date_of_day day in
    let is = date_of_day-is day h in
    let counted = first_of_month-counted day (pos date.year) date.month date.day h is.civil is.number in
    let since = day_since (pos date.year) date.month 1 (first_exists (pos date.year) date.month date.day is.civil) (omega (arith, signed_arith)) in
    let before : first_of_month day ≤ℤ day = omega (arith, signed_arith, counted, is.civil.2.0) in
    ((since, omega (arith, signed_arith, before, h.1)), before)

-- and so is that of a year
pub first_of_year-in : (day : ℤ) → IsCalendarDay day → IsCalendarDay (first_of_year day) × (first_of_year day ≤ℤ day)
first_of_year-in day h =
    let date = date_of_day day in
    let is = date_of_day-is day h in
    let counted = first_of_year-counted day (pos date.year) date.month date.day h is.civil is.number in
    let since = day_since (pos date.year) 1 1 (january_exists (pos date.year) date.month date.day is.civil) (omega (arith, signed_arith)) in
    let before : first_of_year day ≤ℤ day = omega (arith, signed_arith, counted, is.civil.2.0) in
    ((since, omega (arith, signed_arith, before, h.1)), before)

-- a date is before the first day of each later month
before_later_month : (year : ℤ) (month day : ℕ) (later : ℤ) (later_month : ℕ) → IsCivilDate year month day
    → (year <ℤ later) ⊎ ((year ≡ later) × (month < later_month)) → days_from_civil year month day <ℤ days_from_civil later later_month 1
before_later_month year month day later later_month exists (inl lt) =
    omega (arith, signed_arith, days_from_civil-day_count, day_count-lt_year year month day later later_month 1 exists (omega arith) lt)
before_later_month year month day later later_month exists (inr (same, lt)) =
    rw (← same) (omega (arith, signed_arith, days_from_civil-day_count, day_count-lt_month year month day later_month 1 exists (omega arith) lt))

later_of_signed : (a b : Date) → IsInLaterMonth a b → (pos a.year <ℤ pos b.year) ⊎ ((pos a.year ≡ pos b.year) × (a.month < b.month))
later_of_signed a b (inl lt) = inl (omega (arith, signed_arith))
later_of_signed a b (inr (same, lt)) = inr (ap pos same, lt)

before_month : (a b : ℤ) → IsCalendarDay a → IsInLaterMonth (date_of_day a) (date_of_day b) → a <ℤ first_of_month b
before_month a b in_a later =
    let date = date_of_day a in
    let is = date_of_day-is a in_a in
    rw is.number at (before_later_month (pos date.year) date.month date.day (pos (date_of_day b).year) (date_of_day b).month is.civil (later_of_signed date (date_of_day b) later))

-- days in order have dates in order
since_month : (a b : ℤ) → IsCalendarDay a → IsCalendarDay b → IsInLaterMonth (date_of_day b) (date_of_day a) → a <ℤ first_of_month b → ⊥
since_month a b in_a in_b later lt =
    let back = before_month b a in_b later in
    omega (arith, signed_arith, back, first_of_month-in a in_a, first_of_month-in b in_b)

same_month : (a b : ℤ) → IsCalendarDay a → (date_of_day a).year ≡ (date_of_day b).year → (date_of_day a).month ≡ (date_of_day b).month → a <ℤ first_of_month b → ⊥
same_month a b in_a year month lt =
    let same : first_of_month b ≡ first_of_month a = rw (year, month) refl in
    omega (arith, signed_arith, same, first_of_month-in a in_a)

month_of_before : (a b : ℤ) → IsCalendarDay a → IsCalendarDay b → a <ℤ first_of_month b → IsInLaterMonth (date_of_day a) (date_of_day b)
month_of_before a b in_a in_b lt =
    by_years (cases_order (date_of_day a).year (date_of_day b).year)
  where
    by_months : (date_of_day a).year ≡ (date_of_day b).year → ((date_of_day a).month ≡ (date_of_day b).month) ⊎ (((date_of_day a).month < (date_of_day b).month) ⊎ ((date_of_day b).month < (date_of_day a).month))
        → IsInLaterMonth (date_of_day a) (date_of_day b)
    by_months year (inl month) = absurd (same_month a b in_a year month lt)
    by_months year (inr (inl less)) = inr (year, less)
    by_months year (inr (inr more)) = absurd (since_month a b in_a in_b (inr (sym year, more)) lt)

    by_years : ((date_of_day a).year ≡ (date_of_day b).year) ⊎ (((date_of_day a).year < (date_of_day b).year) ⊎ ((date_of_day b).year < (date_of_day a).year))
        → IsInLaterMonth (date_of_day a) (date_of_day b)
    by_years (inl same) = by_months same (cases_order (date_of_day a).month (date_of_day b).month)
    by_years (inr (inl less)) = inl less
    by_years (inr (inr more)) = absurd (since_month a b in_a in_b (inl more) lt)

-- a day is before the first of another's month just where that month is later
pub later_month : (a b : ℤ) → IsCalendarDay a → IsCalendarDay b → (a <ℤ first_of_month b) ↔ IsInLaterMonth (date_of_day a) (date_of_day b)
later_month a b in_a in_b = (month_of_before a b in_a in_b, before_month a b in_a)

before_year : (a b : ℤ) → IsCalendarDay a → (date_of_day a).year < (date_of_day b).year → a <ℤ first_of_year b
before_year a b in_a less =
    let date = date_of_day a in
    let is = date_of_day-is a in_a in
    rw is.number at (before_later_month (pos date.year) date.month date.day (pos (date_of_day b).year) 1 is.civil (inl (omega (arith, signed_arith))))

year_of_before : (a b : ℤ) → IsCalendarDay a → IsCalendarDay b → a <ℤ first_of_year b → (date_of_day a).year < (date_of_day b).year
year_of_before a b in_a in_b lt =
    by_years (cases_order (date_of_day a).year (date_of_day b).year)
  where
    by_years : ((date_of_day a).year ≡ (date_of_day b).year) ⊎ (((date_of_day a).year < (date_of_day b).year) ⊎ ((date_of_day b).year < (date_of_day a).year))
        → (date_of_day a).year < (date_of_day b).year
    by_years (inl same) =
        let first : first_of_year b ≡ first_of_year a = rw same refl in
        absurd (omega (arith, signed_arith, first, first_of_year-in a in_a))
    by_years (inr (inl less)) = less
    by_years (inr (inr more)) = absurd (omega (arith, signed_arith, before_year b a in_b more, first_of_year-in a in_a, first_of_year-in b in_b))

-- a day is before the first of another's year just where that year is later
pub later_year : (a b : ℤ) → IsCalendarDay a → IsCalendarDay b → (a <ℤ first_of_year b) ↔ ((date_of_day a).year < (date_of_day b).year)
later_year a b in_a in_b = (year_of_before a b in_a in_b, before_year a b in_a)
