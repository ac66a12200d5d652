use Rattle.std.proofs.Common.{◌≡◌, ℕ, ◌+◌, ◌<◌, ◌≤◌, pos, ◌+ℤ◌, FitsSigned, subst, sym, to_z, of_z, w64, arith}
use Rattle.std.proofs.lemmas.Int.{ints, to_z-of_z}
use Rattle.due_set.specs.Matching.{IsFirstMatch, MatchNoneOf}
use Rattle.due_set.proofs.MatchingLemmas.{IsFirstMatch-after, MatchNoneOf-joined}
use Rattle.due_set.proofs.TableLemmas.{IfNone-map, IfSome-both}
use Rattle.due_set.proofs.matching.minutes_to_match.Goals as goal

pub loop-passed-preserved : goal.loop-passed-preserved
loop-passed-preserved c =
    let from = to_z w64 (of_z w64 c.args.from) in
    let next = to_z w64 (of_z w64 c.later-minute.result) in
    let next_is : next ≡ from +ℤ pos c.loop-passed.passed = omega (arith, ints, c.later-minute.ensures.value, c.later-minute.ensures.calendar) in
    MatchNoneOf-joined c.args.fields.now from next c.loop-passed.passed c.minutes_passed_over-passed.result next_is c.loop-passed.invariant c.minutes_passed_over-passed.ensures.none

-- the first match of the day is the first one from the start on
first : (c : goal.After-below) → IsFirstMatch c.args.fields.now c.args.from (c.loop-passed.passed + c.in-Some.steps)
first c =
    let fits : FitsSigned w64 c.args.from = c.ranges.from in
    let next = to_z w64 (of_z w64 c.later-minute.result) in
    let next_is : next ≡ c.args.from +ℤ pos c.loop-passed.passed = omega (arith, ints, c.later-minute.ensures.value, c.later-minute.ensures.calendar) in
    let none : MatchNoneOf c.args.fields.now c.args.from c.loop-passed.passed = simp to_z-of_z at c.loop-passed.invariant in
    IsFirstMatch-after c.args.fields.now c.args.from next c.loop-passed.passed c.in-Some.steps next_is none c.in-Some.ensures.found

pub returns-in-Some-clause-found : goal.returns-in-Some-clause-found
returns-in-Some-clause-found c =
    let at : ℕ = c.loop-passed.passed + c.in-Some.steps in
    let is : ℕ → Type 0 = λ same. (same ≡ at) × (same < c.args.count) in
    IfSome-both is is (IsFirstMatch c.args.fields.now c.args.from) c.below.result c.below.ensures.some c.below.ensures.some
    (λ same p q. subst (IsFirstMatch c.args.fields.now c.args.from) (sym p.0) (first c))

pub returns-in-Some-clause-none : goal.returns-in-Some-clause-none
returns-in-Some-clause-none c =
    let at : ℕ = c.loop-passed.passed + c.in-Some.steps in
    IfNone-map (c.args.count ≤ at) (MatchNoneOf c.args.fields.now c.args.from c.args.count) c.below.result c.below.ensures.none
    (λ le steps lt m. (first c).none_before steps (omega arith) m)
