use Rattle.std.proofs.Common.{rules, ◌≡◌, ◌+◌, ◌*◌, arith, pos, to_z, w16}
use Rattle.std.proofs.lemmas.Int.{to_z_pos}
use Rattle.jiff_core.proofs.SignedLemmas.{signed_arith}
use Rattle.zone_minutes.specs.Stamp.{HasMarks}
use Rattle.zone_minutes.proofs.StampLemmas.{extended_text-from_digits}
use Rattle.zone_minutes.proofs.stamp.read_civil.Goals as goal

pub returns-clause-read : goal.returns-clause-read
returns-clause-read c =
    let century = c.in_ok-century.ensures.number in
    let year = c.in_ok-year.ensures.number in
    let month = c.in_ok-month.ensures.number in
    let day = c.in_ok-day.ensures.number in
    let hour = c.in_ok-hour.ensures.number in
    let minute = c.in_ok-minute.ensures.number in
    let sum : to_z w16 (c.from.result * 100 + c.from-2.result) ≡ pos (c.in_ok-century.century * 100 + c.in_ok-year.year) = rw (c.from.ensures, c.from-2.ensures) (to_z_pos w16 _ (omega (arith, century.small, year.small))) in
    let marks : HasMarks c.args.bytes.now = search rules in
    rw sum (
      record { since = omega (arith, signed_arith); until = omega (arith, signed_arith, century.small, year.small); month = month.small; day = day.small; hour = hour.small; minute = minute.small },
      extended_text-from_digits c.args.bytes.now _ _ _ _ _ _ marks century year month day hour minute,
    )
