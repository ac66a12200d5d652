use Rattle.std.proofs.Common.{◌≡◌, ◌↔◌, IsTrue, ap, FitsSigned, to_z, of_z, unsigned_abs, w64, arith}
use Rattle.std.proofs.lemmas.Int.{to_z-of_z}
use Rattle.jiff_core.proofs.SignedLemmas.{signed_arith}
use Rattle.zone_minutes.specs.Civil.{minute_of_day}
use Rattle.due_set.specs.Due.{MatchesDateAt}
use Rattle.due_set.proofs.MatchingLemmas.{IsFirstMatch-time}
use Rattle.due_set.proofs.matching.minutes_in_day.Goals as goal

pub returns-clause-found : goal.returns-clause-found
returns-clause-found c =
    let fits : FitsSigned w64 c.args.minute = c.ranges.minute in
    let from_fits : FitsSigned w64 c.rem_euclid-from.result = omega (arith, signed_arith) in
    let from_is : unsigned_abs (to_z w64 (of_z w64 c.rem_euclid-from.result)) ≡ minute_of_day c.args.minute =
    simp to_z-of_z (ap unsigned_abs (simp to_z-of_z at c.rem_euclid-from.ensures.value)) in
    let tells : IsTrue c.matches_date.result ↔ MatchesDateAt c.args.fields.now c.args.minute = simp to_z-of_z at c.matches_date.ensures in
    let held : IsTrue c.matches_date.result = let is = c.if-not-matches_date.false in cc in
    rw c.from.ensures (IsFirstMatch-time c.args.fields.now c.args.minute _ c.in_ok-time.time from_is c.in_ok-time.ensures.day (tells.0 held) c.in_ok-time.ensures.found)
