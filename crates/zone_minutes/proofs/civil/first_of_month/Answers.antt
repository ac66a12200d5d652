use Rattle.std.proofs.Common.{◌≡◌, arith, w64, FitsSigned}
use Rattle.std.proofs.lemmas.Int.{to_z-of_z}
use Rattle.jiff_core.proofs.SignedLemmas.{signed_arith}
use Rattle.jiff_core.specs.Date.{epoch_day}
use Rattle.zone_minutes.proofs.MonthLemmas.{first_of_month-counted, first_of_month-in}
use Rattle.zone_minutes.proofs.civil.first_of_month.Goals as goal

pub returns-clause-first : goal.returns-clause-first
returns-clause-first c =
    let date = c.unwrap-date.result in
    let fits : FitsSigned w64 c.args.day = c.ranges.day in
    let made = rw c.unwrap-date.ensures at c.from_unix_epoch_day.ensures.value in
    let day : epoch_day date ≡ c.args.day = simp to_z-of_z at made in
    let counted = first_of_month-counted c.args.day date.year date.month date.day c.requires (date.year_in, date.month_in, date.day_in) day in
    omega (arith, signed_arith, counted, c.from.ensures, c.requires, date.day_in.0, first_of_month-in c.args.day c.requires)

pub returns-clause-range : goal.returns-clause-range
returns-clause-range c = rw (returns-clause-first c) (first_of_month-in c.args.day c.requires).0
