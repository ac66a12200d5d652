use Rattle.std.proofs.Common.{◌≡◌, ◌≤◌, ℤ, pos, ◌+ℤ◌, ◌≤ℤ◌, FitsSigned, to_z, of_z, w64, refl, ap, ◌∙◌, subst, arith}
use Rattle.std.proofs.lemmas.Int.{ints, to_z-of_z}
use Rattle.zone_minutes.specs.Run.{IsRunAt}
use Rattle.due_set.specs.Matching.{rest_of_day}
use Rattle.due_set.proofs.DayLemmas.{IsShownFrom-run}
use Rattle.due_set.proofs.anacron.minutes_of_date.Goals as goal

pub returns-clause-shown : goal.returns-clause-shown
returns-clause-shown c = λ shown local.
    let run = c.run_at-run.result in
    let ahead_in = run.ahead_in in
    let from_is : to_z w64 (of_z w64 c.from.result) ≡ pos c.args.from = omega (arith, ints) in
    let at : IsRunAt c.args.zone.now (pos c.args.from) run = subst (λ (t : ℤ). IsRunAt c.args.zone.now t run) from_is c.run_at-run.ensures.run in
    let limits = c.run_at-run.ensures.limits in
    let two : ℤ = c.from-2.result in
    let three : ℤ = c.from-3.result in
    let two_is : two ≡ pos c.args.from = omega (arith, ints) in
    let three_is : three ≡ run.ahead = omega (arith, ints) in
    let two_fits : FitsSigned w64 two = omega (arith, ints) in
    let three_fits : FitsSigned w64 three = omega (arith, ints, ahead_in) in
    let sum_fits : FitsSigned w64 (two +ℤ three) = omega (arith, ints, ahead_in) in
    let rest : c.minutes_of_day.result ≡ rest_of_day (two +ℤ three) = simp to_z-of_z at c.minutes_of_day.ensures.rest in
    let told : ℤ = pos c.args.from +ℤ run.ahead in
    let sum_is : two +ℤ three ≡ told = ap (λ (t : ℤ). t +ℤ three) two_is ∙ ap (λ (t : ℤ). pos c.args.from +ℤ t) three_is in
    let rest_told : c.minutes_of_day.result ≡ rest_of_day told = rest ∙ ap rest_of_day sum_is in
    let short : c.min.result ≤ rest_of_day told = omega arith in
    let since = at.since in
    let before = at.before in
    let within : (pos c.args.from +ℤ pos c.min.result) ≤ℤ run.until.0 = omega (arith, ints, since, before) in
    IsShownFrom-run c.args.zone.now (pos c.args.from) run c.min.result shown told at local refl within short
