use Rattle.std.proofs.Common.{◌≡◌, ◌∙◌, ap, FitsSigned, w64, arith}
use Rattle.std.proofs.lemmas.Int.{ints, to_z-of_z}
use Rattle.zone_minutes.specs.Civil.{civil_at, day_number, weekday_of}
use Rattle.due_set.proofs.DueLemmas.{Matches-of}
use Rattle.due_set.proofs.due.matches.Goals as goal

pub returns-then-matches_date : goal.returns-then-matches_date
returns-then-matches_date c =
    let minute_fits : FitsSigned w64 c.args.minute = c.ranges.minute in
    let day_fits : FitsSigned w64 c.day_of.result = omega (arith, ints) in
    let civil_is : c.civil_of-civil.result ≡ civil_at c.args.minute = simp to_z-of_z at c.civil_of-civil.ensures.civil in
    let day_is : c.day_of.result ≡ day_number c.args.minute = simp to_z-of_z at c.day_of.ensures.day in
    let weekday_is : c.weekday_of.result ≡ weekday_of c.day_of.result = simp to_z-of_z at c.weekday_of.ensures.weekday in
    Matches-of c.args.fields.now c.args.minute c.civil_of-civil.result c.weekday_of.result c.matches_time.result civil_is (weekday_is ∙ ap weekday_of day_is)
    (c.matches_date.ensures.0 c.if-matches_date.true) c.matches_time.ensures
