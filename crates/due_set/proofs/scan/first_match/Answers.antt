use Rattle.std.proofs.Common.{◌≡◌, ◌-◌, ℤ, pos, ◌+ℤ◌, ◌<ℤ◌, FitsSigned, to_z, of_z, w64, arith}
use Rattle.std.proofs.lemmas.Int.{ints, to_z-of_z}
use Rattle.due_set.specs.Matching.{IsFirstMatch, MatchNoneOf}
use Rattle.due_set.proofs.SteadyLemmas.{IsFirstDue-matching, IsNotDueIn-unmatching}
use Rattle.due_set.proofs.scan.first_match.Goals as goal

pub returns-in_err-steps-clause-none : goal.returns-in_err-steps-clause-none
returns-in_err-steps-clause-none c =
    let shown : ℤ = c.local_of-shown.result in
    let fits : FitsSigned w64 shown = omega (arith, ints) in
    let none : MatchNoneOf c.args.fields.now shown (c.args.until - c.args.first) = simp to_z-of_z at c.in_err-steps.ensures.none in
    let until_is : pos c.args.until ≡ pos c.args.first +ℤ pos (c.args.until - c.args.first) = omega (arith, ints) in
    rw c.from_residual.ensures (IsNotDueIn-unmatching c.args.fields.now c.args.zone.now.source (pos c.args.first) (pos c.args.until) shown (c.args.until - c.args.first) c.requires.steady c.local_of-shown.ensures.local until_is none)

pub returns-clause-found : goal.returns-clause-found
returns-clause-found c =
    let shown : ℤ = c.local_of-shown.result in
    let fits : FitsSigned w64 shown = omega (arith, ints) in
    let steps = c.in_ok-steps.steps in
    let at : ℤ = to_z w64 (of_z w64 c.from.result) in
    let first : IsFirstMatch c.args.fields.now shown steps = simp to_z-of_z at c.in_ok-steps.ensures.found in
    let at_is : at ≡ pos c.args.first +ℤ pos steps = omega (arith, ints) in
    let before : at <ℤ pos c.args.until = omega (arith, ints, c.in_ok-steps.ensures.before) in
    IsFirstDue-matching c.args.fields.now c.args.zone.now.source (pos c.args.first) (pos c.args.until) shown at steps c.requires.steady c.local_of-shown.ensures.local at_is before first
