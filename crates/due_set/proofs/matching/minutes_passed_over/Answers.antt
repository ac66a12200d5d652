use Rattle.std.proofs.Common.{◌≡◌, ◌+◌, ◌≤◌, ◌∙◌, FitsSigned, w64, ap, arith}
use Rattle.std.proofs.lemmas.Int.{to_z-of_z}
use Rattle.jiff_core.proofs.SignedLemmas.{signed_arith}
use Rattle.jiff_core.specs.Calendar.{days_in_month}
use Rattle.zone_minutes.specs.Civil.{civil_at, day_number, weekday_of, IsCalendarDay, IsCalendarMinute}
use Rattle.due_set.specs.Matching.{MatchNoneOfDays, rest_of_day}
use Rattle.due_set.proofs.MatchingLemmas.{MatchNoneOf-days}
use Rattle.due_set.proofs.matching.minutes_passed_over.Goals as goal

pub returns-clause-none : goal.returns-clause-none
returns-clause-none c =
    let minute = c.args.minute in
    let civil = c.civil_of.result in
    let days = c.days_passed_over-days.result in
    let fits : FitsSigned w64 minute = c.ranges.minute in
    let range : IsCalendarMinute minute → IsCalendarDay c.day_of.result = simp to_z-of_z at c.day_of.ensures.range in
    let day_fits : FitsSigned w64 c.day_of.result = omega (arith, signed_arith, range c.requires.calendar) in
    let civil_is : civil ≡ civil_at minute = simp to_z-of_z at c.civil_of.ensures.civil in
    let day_is : c.day_of.result ≡ day_number minute = simp to_z-of_z at c.day_of.ensures.day in
    let weekday_at : c.weekday_of.result ≡ weekday_of c.day_of.result = simp to_z-of_z at c.weekday_of.ensures.weekday in
    let weekday_is : c.weekday_of.result ≡ weekday_of (day_number minute) = weekday_at ∙ ap weekday_of day_is in
    let le : civil.day + days ≤ days_in_month civil.year civil.month = c.days_passed_over-days.ensures.month in
    let none : MatchNoneOfDays c.args.fields.now civil c.weekday_of.result days = c.days_passed_over-days.ensures.none in
    let rest : c.minutes_of_day.result ≡ rest_of_day minute = simp to_z-of_z at c.minutes_of_day.ensures.rest in
    let passed = MatchNoneOf-days c.args.fields.now minute civil c.weekday_of.result days c.requires.calendar civil_is weekday_is le none c.requires.none in
    λ steps lt. passed steps (omega (arith, lt, rest, c.from.ensures))
