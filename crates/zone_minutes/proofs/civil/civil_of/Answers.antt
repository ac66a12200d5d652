use Rattle.std.proofs.Common.{◌≡◌, ap, sym, ◌∙◌, arith, w16, w64, to_z, of_z, FitsSigned, unsigned_abs}
use Rattle.std.proofs.lemmas.Int.{to_z-of_z}
use Rattle.jiff_core.proofs.SignedLemmas.{signed_arith}
use Rattle.jiff_core.specs.Date.{epoch_day}
use Rattle.zone_minutes.specs.Civil.{day_number, minute_of_day}
use Rattle.zone_minutes.proofs.CalendarLemmas.{civil_at-unique}
use Rattle.zone_minutes.proofs.civil.civil_of.Goals as goal

pub returns-clause-civil : goal.returns-clause-civil
returns-clause-civil c =
    let date = c.unwrap-date.result in
    let year_fits : FitsSigned w16 date.year = omega (arith, signed_arith) in
    let number_fits : FitsSigned w64 c.args.number = c.ranges.number in
    let minute_fits : FitsSigned w64 c.rem_euclid-minute.result = omega (arith, signed_arith) in
    let day_fits : FitsSigned w64 c.day_of.result = omega (arith, signed_arith) in
    let minute : unsigned_abs (to_z w64 (of_z w64 c.rem_euclid-minute.result)) ≡ minute_of_day c.args.number = simp to_z-of_z (ap unsigned_abs (simp to_z-of_z at c.rem_euclid-minute.ensures.value)) in
    let made = rw c.unwrap-date.ensures at c.from_unix_epoch_day.ensures.value in
    let day : epoch_day date ≡ day_number c.args.number = (simp to_z-of_z at made) ∙ (simp to_z-of_z at c.day_of.ensures.day) in
    rw (to_z-of_z w16 date.year year_fits, minute) (sym (civil_at-unique c.args.number date.year date.month date.day c.requires (date.year_in, date.month_in, date.day_in) day))
