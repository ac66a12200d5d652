use Rattle.std.proofs.Common.{◌≡◌, ap, ◌∙◌, arith, take, pos, ◌*ℤ◌, w64, FitsSigned}
use Rattle.std.proofs.lemmas.Int.{to_z-of_z}
use Rattle.jiff_core.proofs.SignedLemmas.{signed_arith}
use Rattle.zone_minutes.specs.Civil.{civil_at}
use Rattle.zone_minutes.specs.Stamp.{extended_text, stamp_text, date_text}
use Rattle.zone_minutes.proofs.StampLemmas.{date_text-front}
use Rattle.zone_minutes.proofs.stamp.write_date.Goals as goal

pub returns-clause-ok : goal.returns-clause-ok
unfolding stamp_text
returns-clause-ok c =
    let day = c.args.day in
    let fits : FitsSigned w64 day = c.ranges.day in
    let midnight_fits : FitsSigned w64 (day *ℤ pos 1440) = omega (arith, signed_arith, c.requires) in
    let civil : c.civil_of.result ≡ civil_at (day *ℤ pos 1440) = simp to_z-of_z at c.civil_of.ensures.civil in
    let date : take 10 c.extended-midnight.result ≡ date_text day = ap (take 10) (c.extended-midnight.ensures ∙ ap extended_text civil) ∙ date_text-front day in
    rw date at c.push_ascii.ensures.ok
