use Rattle.std.proofs.Common.{sym, ap, ◌∙◌, arith, w64, FitsSigned}
use Rattle.std.proofs.lemmas.Int.{to_z-of_z}
use Rattle.jiff_core.proofs.SignedLemmas.{signed_arith}
use Rattle.zone_minutes.specs.Civil.{civil_at}
use Rattle.zone_minutes.specs.Stamp.{extended_text, stamp_text}
use Rattle.zone_minutes.proofs.StampLemmas.{IsStampable-civil_at, extended_text-injective}
use Rattle.zone_minutes.proofs.stamp.read_minute.Goals as goal

pub returns-in_err-civil-clause-none : goal.returns-in_err-civil-clause-none
unfolding stamp_text
returns-in_err-civil-clause-none c =
    rw c.from_residual.ensures (λ at is e. c.in_err-civil.ensures.none (civil_at at) (IsStampable-civil_at at is) e)

pub returns-in_err-number-clause-none : goal.returns-in_err-number-clause-none
unfolding stamp_text
returns-in_err-number-clause-none c =
    rw c.from_residual-in_err-number.ensures (λ at is e.
    let read = c.in_ok-civil.ensures.read in
    c.in_err-number.ensures.none at is (extended_text-injective (civil_at at) c.in_ok-civil.civil (IsStampable-civil_at at is) read.0 (sym e ∙ read.1)))

pub returns-clause-read : goal.returns-clause-read
unfolding stamp_text
returns-clause-read c =
    let number = c.in_ok-number.ensures.number in
    let fits : FitsSigned w64 c.in_ok-number.number = omega (arith, signed_arith, number.0) in
    rw (to_z-of_z w64 c.in_ok-number.number fits) (number.0, c.in_ok-civil.ensures.read.1 ∙ ap extended_text (sym number.1))
