-- Civil minutes of one day and of one month, and the next one that an entry's fields match.
use Rattle.std.proofs.Common.{◌≡◌, ℕ, zero, suc, ◌+◌, ◌-◌, ◌*◌, ◌/◌, ◌%◌, ◌<◌, ◌≤◌, inl, inr, true, nat_lt, ℤ, pos, negsuc, ◌+ℤ◌, ◌≤ℤ◌, refl, sym, ap, ◌∙◌, subst, unsigned_abs, arith}
use Rattle.std.specs.Int.{int_rem_euclid}
use Rattle.std.proofs.lemmas.Bool.{cases_lt}
use Rattle.std.proofs.lemmas.Bool.Decides.{nat_tests}
use Rattle.std.proofs.lemmas.Int.{ints}
use Rattle.jiff_core.specs.Calendar.{days_in_month}
use Rattle.jiff_core.proofs.SignedLemmas.{signed_arith, one_part}
use Rattle.cron_fields.specs.Match.{MatchesDate, MatchesTime}
use Rattle.cron_fields.specs.declared.field.Fields.{Fields}
use Rattle.zone_minutes.specs.Calendar.{Date, date_after, date_of_day, next_date}
use Rattle.zone_minutes.specs.Civil.{civil_at, day_number, minute_of_day, weekday_of, IsCalendarMinute}
use Rattle.zone_minutes.specs.declared.civil.Civil.{Civil}
use Rattle.due_set.specs.Due.{Matches, MatchesDateAt}
use Rattle.due_set.specs.Matching.{IsNextTime, IsFirstMatch, MatchNoneOf, MatchNoneOfDays, rest_of_day}

-- ---- a day

-- a later minute of the day has the day's number, and is as many minutes further into it
pub record IsLaterInDay (minute : ℤ) (steps : ℕ) : Type 0 where
  pub day : day_number (minute +ℤ pos steps) ≡ day_number minute
  pub time : minute_of_day (minute +ℤ pos steps) ≡ minute_of_day minute + steps

pub later_in_day : (minute : ℤ) (steps : ℕ) → minute_of_day minute + steps < 1440 → IsLaterInDay minute steps
later_in_day minute steps lt = record {
  day = omega (arith, signed_arith, lt, one_part (int_rem_euclid minute (pos 1440)));
  time = omega (arith, signed_arith, lt, one_part (int_rem_euclid minute (pos 1440)), one_part (int_rem_euclid (minute +ℤ pos steps) (pos 1440)));
}

pub minute_of_day-below : (minute : ℤ) → minute_of_day minute < 1440
minute_of_day-below minute = omega (arith, signed_arith, one_part (int_rem_euclid minute (pos 1440)))

-- the first time that is left, on a date that matches
pub IsFirstMatch-time : (fields : Fields) (minute : ℤ) (from time : ℕ) → from ≡ minute_of_day minute → time < 1440 → MatchesDateAt fields minute → IsNextTime fields from time
    → IsFirstMatch fields minute (time - from)
IsFirstMatch-time fields minute from time from_is lt date next =
    let since = next.since in
    let on = later_in_day minute (time - from) (omega arith) in
    let at_is : minute_of_day (minute +ℤ pos (time - from)) ≡ time = on.time ∙ omega arith in
    record {
      matches = record {
        date = subst (λ (d : ℤ). MatchesDate fields (date_of_day d).month (date_of_day d).day (weekday_of d)) (sym on.day) date;
        time = subst (λ (t : ℕ). MatchesTime fields (t / 60) (t % 60)) (sym at_is) next.matches;
      };
      none_before = λ steps below m.
          let then = later_in_day minute steps (omega arith) in
          next.none_before (minute_of_day minute + steps) (omega arith) (omega arith)
          (subst (λ (t : ℕ). MatchesTime fields (t / 60) (t % 60)) then.time m.time);
    }

-- ---- a month

-- another day of the date's month
abbrev with_day : Date → ℕ → Date
with_day date day = record { year = date.year; month = date.month; day = day }

-- the days that are left of a month
date_after-later : (days steps : ℕ) (date : Date) → date ≡ date_after days → date.day + steps ≤ days_in_month (pos date.year) date.month
    → date_after (days + steps) ≡ with_day date (date.day + steps)
unfolding date_after
date_after-later days zero date is le =
    let none : days + 0 ≡ days = omega arith in
    let same : date.day ≡ date.day + 0 = omega arith in
    ap date_after none ∙ sym is ∙ ap (with_day date) same
date_after-later days (suc steps) date is le =
    let one_more : days + suc steps ≡ suc (days + steps) = omega arith in
    let before : date_after (days + steps) ≡ with_day date (date.day + steps) = date_after-later days steps date is (omega arith) in
    let more : nat_lt (date.day + steps) (days_in_month (pos date.year) date.month) ≡ true = grind (arith, nat_tests) in
    let next : next_date (date_after (days + steps)) ≡ with_day date (date.day + steps + 1) = rw before (rw more refl) in
    let day_is : date.day + steps + 1 ≡ date.day + suc steps = omega arith in
    ap date_after one_more ∙ next ∙ ap (with_day date) day_is

date_of_day-later : (day : ℤ) (steps : ℕ) → negsuc 719_527 ≤ℤ day → (date_of_day day).day + steps ≤ days_in_month (pos (date_of_day day).year) (date_of_day day).month
    → date_of_day (day +ℤ pos steps) ≡ with_day (date_of_day day) ((date_of_day day).day + steps)
date_of_day-later day steps since le =
    let days : unsigned_abs (day +ℤ pos steps +ℤ pos 719528) ≡ unsigned_abs (day +ℤ pos 719528) + steps =
    omega (arith, signed_arith, since, one_part (day +ℤ pos 719528), one_part (day +ℤ pos steps +ℤ pos 719528)) in
    ap date_after days ∙ date_after-later (unsigned_abs (day +ℤ pos 719528)) steps (date_of_day day) refl le

-- so many days later is so many weekdays later
weekday_of-later : (day : ℤ) (steps : ℕ) → weekday_of (day +ℤ pos steps) ≡ (weekday_of day + steps) % 7
weekday_of-later day steps = omega (arith, signed_arith, one_part (int_rem_euclid (day +ℤ pos 4) (pos 7)), one_part (int_rem_euclid (day +ℤ pos steps +ℤ pos 4) (pos 7)))

-- so many minutes later is so many days later
day_number-later : (minute : ℤ) (steps : ℕ) → day_number (minute +ℤ pos steps) ≡ day_number minute +ℤ pos ((minute_of_day minute + steps) / 1440)
day_number-later minute steps = omega (arith, signed_arith, one_part (int_rem_euclid minute (pos 1440)))

-- what is left of the day, and days of the month after it of which the fields match none
pub MatchNoneOf-days : (fields : Fields) (minute : ℤ) (civil : Civil) (weekday days : ℕ) → IsCalendarMinute minute → civil ≡ civil_at minute → weekday ≡ weekday_of (day_number minute)
    → civil.day + days ≤ days_in_month civil.year civil.month → MatchNoneOfDays fields civil weekday days → MatchNoneOf fields minute (rest_of_day minute)
    → MatchNoneOf fields minute (days * 1440 + rest_of_day minute)
MatchNoneOf-days fields minute civil weekday days within civil_is weekday_is le none none_of_day steps lt m =
    elim (cases_lt steps (rest_of_day minute)) [
      | inl today ↦ none_of_day steps today m
      | inr from ↦ none later (omega (arith, below)) few (subst (λ (w : ℕ). MatchesDate fields civil.month (civil.day + later) w) then_weekday on_then)
    ]
  where
    below : minute_of_day minute < 1440
    below = minute_of_day-below minute

    later : ℕ
    later = (minute_of_day minute + steps) / 1440

    few : later ≤ days
    few = omega (arith, lt, below)

    le_at : (civil_at minute).day + days ≤ days_in_month (civil_at minute).year (civil_at minute).month
    le_at = subst (λ (c : Civil). c.day + days ≤ days_in_month c.year c.month) civil_is le

    on : MatchesDate fields (date_of_day (day_number minute +ℤ pos later)).month (date_of_day (day_number minute +ℤ pos later)).day (weekday_of (day_number minute +ℤ pos later))
    on = subst (λ (d : ℤ). MatchesDate fields (date_of_day d).month (date_of_day d).day (weekday_of d)) (day_number-later minute steps) m.date

    then : date_of_day (day_number minute +ℤ pos later) ≡ with_day (date_of_day (day_number minute)) ((date_of_day (day_number minute)).day + later)
    then = date_of_day-later (day_number minute) later (omega (arith, signed_arith, within)) (omega (arith, le_at, few))

    on_date : MatchesDate fields (civil_at minute).month ((civil_at minute).day + later) (weekday_of (day_number minute +ℤ pos later))
    on_date = subst (λ (d : Date). MatchesDate fields d.month d.day (weekday_of (day_number minute +ℤ pos later))) then on

    on_then : MatchesDate fields civil.month (civil.day + later) (weekday_of (day_number minute +ℤ pos later))
    on_then = subst (λ (c : Civil). MatchesDate fields c.month (c.day + later) (weekday_of (day_number minute +ℤ pos later))) (sym civil_is) on_date

    then_weekday : weekday_of (day_number minute +ℤ pos later) ≡ (weekday + later) % 7
    then_weekday = weekday_of-later (day_number minute) later ∙ ap (λ (w : ℕ). (w + later) % 7) (sym weekday_is)

-- ---- one stretch after another

pub MatchNoneOf-joined : (fields : Fields) (minute next : ℤ) (passed more : ℕ) → next ≡ minute +ℤ pos passed → MatchNoneOf fields minute passed → MatchNoneOf fields next more
    → MatchNoneOf fields minute (passed + more)
MatchNoneOf-joined fields minute next passed more next_is none after steps lt m =
    elim (cases_lt steps passed) [
      | inl below ↦ none steps below m
      | inr from ↦
          let same : minute +ℤ pos steps ≡ next +ℤ pos (steps - passed) = omega (arith, ints) in
          after (steps - passed) (omega arith) (subst (Matches fields) same m)
    ]

pub IsFirstMatch-after : (fields : Fields) (minute next : ℤ) (passed steps : ℕ) → next ≡ minute +ℤ pos passed → MatchNoneOf fields minute passed → IsFirstMatch fields next steps
    → IsFirstMatch fields minute (passed + steps)
IsFirstMatch-after fields minute next passed steps next_is none first = record {
  matches = subst (Matches fields) (sum next_is) first.matches;
  none_before = MatchNoneOf-joined fields minute next passed steps next_is none first.none_before;
}
  where
    sum : next ≡ minute +ℤ pos passed → next +ℤ pos steps ≡ minute +ℤ pos (passed + steps)
    sum e = omega (arith, ints)
