use Rattle.std.proofs.Common.{◌≡◌, ℤ, FitsSigned, to_z, of_z, w64, sym, ap, ◌∙◌, subst, arith}
use Rattle.std.proofs.lemmas.Bool.Decides.{nat_tests}
use Rattle.std.proofs.lemmas.Int.{ints, to_z-of_z}
use Rattle.launch_machine.specs.Clerk.{TakesStart}
use Rattle.launch_machine.proofs.MachineLemmas.{TakesStart-same}
use Rattle.launch_machine.proofs.next.takes_start.Goals as goal

pub returns-in-Some : goal.returns-in-Some
returns-in-Some c =
    let now_fits : FitsSigned w64 c.args.now = c.ranges.now in
    let at_fits : FitsSigned w64 c.args.at = c.ranges.at in
    let launch : ℤ = c.in-Some.launch in
    let launch_fits : FitsSigned w64 launch = omega (arith, ints) in
    let takes : TakesStart c.args.table.now c.args.rows.now c.args.job launch c.args.now = simp to_z-of_z at c.in-Some.ensures.found in (
      λ e.
          let same : of_z w64 launch ≡ of_z w64 c.args.at = grind (arith, nat_tests) in
          let launch_is : launch ≡ c.args.at = sym (to_z-of_z w64 launch launch_fits) ∙ ap (to_z w64) same ∙ to_z-of_z w64 c.args.at at_fits in
          subst (λ (t : ℤ). TakesStart c.args.table.now c.args.rows.now c.args.job t c.args.now) launch_is takes,
      λ other.
          let launch_is : launch ≡ c.args.at = TakesStart-same c.args.table.now c.args.rows.now c.args.job launch c.args.at c.args.now takes other in
          let same : of_z w64 launch ≡ of_z w64 c.args.at = ap (of_z w64) launch_is in
          grind (arith, nat_tests),
    )

pub returns-in-None : goal.returns-in-None
returns-in-None c =
    let now_fits : FitsSigned w64 c.args.now = c.ranges.now in
    let none : (at : ℤ) → TakesStart c.args.table.now c.args.rows.now c.args.job at c.args.now → ⊥ = simp to_z-of_z at c.in-None.ensures.none in
    (λ e. cc, λ takes. absurd (none c.args.at takes))
