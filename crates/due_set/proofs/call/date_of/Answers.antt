use Rattle.std.proofs.Common.{◌≡◌, ◌∙◌, ap, FitsSigned, w64, arith}
use Rattle.std.proofs.lemmas.Int.{ints, to_z-of_z}
use Rattle.zone_minutes.specs.Civil.{day_number}
use Rattle.zone_minutes.specs.Zone.{local_of}
use Rattle.due_set.proofs.DueLemmas.{IsLocal-is}
use Rattle.due_set.proofs.call.date_of.Goals as goal

pub returns : goal.returns
returns c z read =
    let shown_fits : FitsSigned w64 c.local.result = omega (arith, ints) in
    let day_fits : FitsSigned w64 c.day_of.result = omega (arith, ints) in
    let day_is : c.day_of.result ≡ day_number c.local.result = simp to_z-of_z at c.day_of.ensures.day in
    let shown_is : c.local.result ≡ local_of z c.args.now.0 = IsLocal-is c.args.zone.now.source z c.args.now.0 c.local.result read c.local.ensures.local in
    simp to_z-of_z (day_is ∙ ap day_number shown_is)
