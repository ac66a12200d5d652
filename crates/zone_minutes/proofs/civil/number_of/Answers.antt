use Rattle.std.proofs.Common.{rules, ◌≡◌, arith, pos, to_z, of_z, w8, w16, FitsSigned, false, is_ok, Result, Ok, Err, Some, IfOk, IsOk, subst}
use Rattle.std.specs.Result.{result_ok}
use Rattle.jiff_core.specs.Date.{epoch_day, IsYmd}
use Rattle.jiff_core.proofs.DateLemmas.{civil as civil_date}
use Rattle.std.proofs.lemmas.Int.{to_z-of_z, to_z_pos}
use Rattle.jiff_core.specs.Calendar.{IsDate, IsCivilDate, days_from_civil}
use Rattle.jiff_core.proofs.SignedLemmas.{signed_arith}
use Rattle.zone_minutes.proofs.CalendarLemmas.{IsCivilTime, IsCivilTime-at, IsWithinClock-at, civil_at-of_parts}
use Rattle.zone_minutes.proofs.civil.number_of.Goals as goal

IfOk-at : {D E : Type 0} (P : D → Type 0) (r : Result D E) (d : D) → Some d ≡ result_ok r → IfOk r P → P d
IfOk-at P (Ok x) d e h = let same : x ≡ d = cc in subst P same h
IfOk-at P (Err f) d e h = absurd cc

is_ok-not : {D E : Type 0} (r : Result D E) → false ≡ is_ok r → IsOk r → ⊥
is_ok-not (Ok x) e h = cc
is_ok-not (Err f) e h = cc

pub returns-then-year-lt0-clause-none : goal.returns-then-year-lt0-clause-none
returns-then-year-lt0-clause-none c = λ at is e.
    let fits : FitsSigned w16 c.args.civil.year = search rules in
    let within = IsWithinClock-at at c.args.civil is e in
    grind (arith, signed_arith, c.then-year-lt0.either)

pub returns-in_err-date-clause-none : goal.returns-in_err-date-clause-none
returns-in_err-date-clause-none c =
    rw c.from_residual.ensures (λ at is e.
    let fits : FitsSigned w16 c.args.civil.year = search rules in
    let time = IsCivilTime-at at c.args.civil is e in
    let within = IsWithinClock-at at c.args.civil is e in
    let month : to_z w8 c.args.civil.month ≡ pos c.args.civil.month = to_z_pos w8 c.args.civil.month (omega arith) in
    let day : to_z w8 c.args.civil.day ≡ pos c.args.civil.day = to_z_pos w8 c.args.civil.day (omega arith) in
    let succeeds = simp (to_z-of_z, month, day) at c.new.ensures.succeeds in
    let exists : IsDate c.args.civil.year (pos c.args.civil.month) (pos c.args.civil.day) = (time.date.0, (omega (arith, signed_arith, time.date.1), omega (arith, signed_arith, time.date.1)), (omega (arith, signed_arith, time.date.2), omega (arith, signed_arith, time.date.2))) in
    let made = succeeds.1 exists in
    is_ok-not _ c.in_err-date.ensures.variant made)

pub returns-clause-number : goal.returns-clause-number
returns-clause-number c =
    let civil = c.args.civil in
    let date = c.in_ok-date.date in
    let fits : FitsSigned w16 civil.year = search rules in
    let month : to_z w8 civil.month ≡ pos civil.month = to_z_pos w8 civil.month (omega arith) in
    let day : to_z w8 civil.day ≡ pos civil.day = to_z_pos w8 civil.day (omega arith) in
    let ymd = simp (to_z-of_z, month, day) at (IfOk-at (IsYmd (to_z w16 (of_z w16 civil.year)) (to_z w8 civil.month) (to_z w8 civil.day)) c.new.result date c.in_ok-date.ensures.value c.new.ensures.value) in
    let same_month : date.month ≡ civil.month = omega (arith, signed_arith, ymd) in
    let same_day : date.day ≡ civil.day = omega (arith, signed_arith, ymd) in
    let exists : IsCivilDate civil.year civil.month civil.day = rw (ymd.0, same_month, same_day) at (civil_date date) in
    let counted : epoch_day date ≡ days_from_civil civil.year civil.month civil.day = rw (ymd.0, same_month, same_day) in
    let time : IsCivilTime civil = record { date = exists; since = omega (arith, signed_arith); hour = omega arith; minute = omega arith } in
    let hour = c.from.ensures in
    let minute = c.from-2.ensures in
    let clock = c.from-4.ensures in
    let days = c.from-3.ensures in
    let bound = c.to_unix_epoch_day.ensures.bound in
    civil_at-of_parts civil _ time (omega (arith, signed_arith))
