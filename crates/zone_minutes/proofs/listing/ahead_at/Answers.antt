use Rattle.std.proofs.Common.{◌≡◌, ℤ, pos, ◌+ℤ◌, ◌*ℤ◌, FitsSigned, w16, w32, w64, to_z, of_z, sym, ap, ◌∙◌, arith}
use Rattle.std.specs.Int.{int_div_euclid}
use Rattle.std.proofs.lemmas.Int.{to_z-of_z}
use Rattle.jiff.specs.Words.{plain_zone, offset_at}
use Rattle.jiff_core.proofs.SignedLemmas.{signed_arith}
use Rattle.zone_minutes.specs.Zone.{minute_nanos}
use Rattle.zone_minutes.proofs.RunLemmas.{local_of-ahead}
use Rattle.zone_minutes.proofs.listing.ahead_at.Goals as goal

pub returns-clause-local : goal.returns-clause-local
returns-clause-local c =
    let zone = plain_zone c.args.zone.now in
    let minute = pos c.args.minute in
    let second : to_z w64 (of_z w64 (to_z w64 (of_z w64 c.from.result) *ℤ pos 60)) ≡ minute *ℤ pos 60 = omega (arith, signed_arith, c.from.ensures) in
    let made = rw c.unwrap-instant.ensures at c.from_second.ensures.value in
    let nanos : c.unwrap-instant.result.nanosecond ≡ minute_nanos minute = made ∙ ap (λ (s : ℤ). s *ℤ pos 1_000_000_000) second in
    let is : c.seconds.result ≡ offset_at zone (minute_nanos minute) = c.seconds.ensures ∙ c.to_offset.ensures ∙ ap (offset_at zone) nanos in
    let fits : FitsSigned w32 c.seconds.result = omega (arith, signed_arith) in
    let divided : c.div_euclid.result ≡ int_div_euclid c.seconds.result (pos 60) = c.div_euclid.ensures ∙ ap (λ (s : ℤ). int_div_euclid s (pos 60)) (to_z-of_z w32 c.seconds.result fits) in
    let ahead : to_z w16 (of_z w16 (to_z w32 (of_z w32 c.div_euclid.result))) ≡ int_div_euclid c.seconds.result (pos 60) = omega (arith, signed_arith, divided, c.seconds.ensures) in
    local_of-ahead zone minute c.seconds.result is ∙ ap (λ (u : ℤ). minute +ℤ u) (sym ahead)
