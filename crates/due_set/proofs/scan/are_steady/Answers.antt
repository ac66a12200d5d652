use Rattle.std.proofs.Common.{◌≡◌, ℤ, pos, subst, to_z, of_z, w64, arith}
use borrow.Author.Differences.{le-true}
use Rattle.std.proofs.lemmas.Int.{ints}
use Rattle.zone_minutes.specs.Run.{IsRunAt}
use Rattle.due_set.proofs.SteadyLemmas.{AreSteady-run}
use Rattle.due_set.proofs.scan.are_steady.Goals as goal

pub returns-then-run-from : goal.returns-then-run-from
returns-then-run-from c = λ holds.
    let run = c.run_at-run.result in
    let at_is : to_z w64 (of_z w64 c.from.result) ≡ pos c.args.first = omega (arith, ints) in
    let is : IsRunAt c.args.zone.now (pos c.args.first) run = subst (λ (t : ℤ). IsRunAt c.args.zone.now t run) at_is c.run_at-run.ensures.run in
    let limits = c.run_at-run.ensures.limits in
    let told = le-true (to_z w64 (of_z w64 c.from-then-run-from.result)) (to_z w64 (of_z w64 run.until.0)) holds in
    AreSteady-run c.args.zone.now (pos c.args.first) (pos c.args.until) run is (omega (arith, ints)) (omega (arith, ints))
