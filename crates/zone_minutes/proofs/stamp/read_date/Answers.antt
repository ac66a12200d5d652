use Rattle.std.proofs.Common.{◌≡◌, ◌++◌, ap, codes, length, sym, ◌∙◌, arith, pos, ◌*ℤ◌, w64, FitsSigned}
use Rattle.std.proofs.lemmas.Int.{to_z-of_z}
use Rattle.jiff_core.proofs.SignedLemmas.{signed_arith}
use Rattle.zone_minutes.specs.Civil.{day_number, IsCalendarDay}
use Rattle.zone_minutes.proofs.CalendarLemmas.{day_number_in}
use Rattle.zone_minutes.proofs.StampLemmas.{date_text-of_midnight, length-date_text, midnight_in, stamp_text-midnight}
use Rattle.zone_minutes.proofs.stamp.read_date.Goals as goal

pub returns-in_err-midnight-clause-none : goal.returns-in_err-midnight-clause-none
returns-in_err-midnight-clause-none c =
    rw c.from_residual.ensures (λ day is e. c.in_err-midnight.ensures.none (ap length (c.as_bytes.ensures.value ∙ e) ∙ length-date_text day))

pub returns-in_err-at-clause-none : goal.returns-in_err-at-clause-none
returns-in_err-at-clause-none c =
    rw c.from_residual-in_err-at.ensures (λ day is e. c.in_err-at.ensures.none (day *ℤ pos 1440) (midnight_in day is)
    (c.in_ok-midnight.ensures.stamp ∙ ap (λ date. date ++ codes "T00:00Z") (c.as_bytes.ensures.value ∙ e) ∙ sym (stamp_text-midnight day)))

pub returns-clause-read : goal.returns-clause-read
returns-clause-read c =
    let at = c.in_ok-at.at.0 in
    let read = c.in_ok-at.ensures.read in
    let fits : FitsSigned w64 at = omega (arith, signed_arith, read.0) in
    let day : c.day_of.result ≡ day_number at = simp to_z-of_z at c.day_of.ensures.day in
    let is : IsCalendarDay (day_number at) = day_number_in at read.0 in
    let day_fits : FitsSigned w64 (day_number at) = omega (arith, signed_arith, is) in
    let text = date_text-of_midnight c.as_bytes.result.now at (sym c.in_ok-midnight.ensures.stamp ∙ read.1) in
    rw (day, to_z-of_z w64 (day_number at) day_fits) (is, sym c.as_bytes.ensures.value ∙ text)
