use Rattle.std.proofs.Common.{◌≢◌, ℕ, ◌<◌, ◌∷◌, ◌++◌, decimal, arith}
use Rattle.script_text.proofs.CutLemmas.{cut_at_space, no_space, if_none}
use Rattle.script_text.proofs.OperandLemmas.{number_parts}
use Rattle.script_text.proofs.operands.read_two_members.Goals as goal

pub returns-in_err-from-clause-none : goal.returns-in_err-from-clause-none
returns-in_err-from-clause-none c =
    let none : (from to : ℕ) → from < c.args.members → to < c.args.members → c.args.text.now ≢ decimal from ++ 32 ∷ decimal to =
    λ from to first second is. no_space c.args.text.now c.in_err-from.ensures.cases (decimal from) (decimal to) is in
    if_none _ none

pub returns-in_err-from-2-clause-none : goal.returns-in_err-from-2-clause-none
returns-in_err-from-2-clause-none c =
    let fits = c.ranges.members.fits in
    let cut = cut_at_space c.args.text.now (c.in_ok-from.from, c.in_ok-from.to) c.in_ok-from.ensures.cases in
    let none : (from to : ℕ) → from < c.args.members → to < c.args.members → c.args.text.now ≢ decimal from ++ 32 ∷ decimal to =
    λ from to first second is. c.in_err-from-2.ensures.none from first (number_parts _ _ _ from (decimal to) cut (omega arith) is).0 in
    if_none _ none

pub returns-in_err-to-clause-none : goal.returns-in_err-to-clause-none
returns-in_err-to-clause-none c =
    let fits = c.ranges.members.fits in
    let cut = cut_at_space c.args.text.now (c.in_ok-from.from, c.in_ok-from.to) c.in_ok-from.ensures.cases in
    let none : (from to : ℕ) → from < c.args.members → to < c.args.members → c.args.text.now ≢ decimal from ++ 32 ∷ decimal to =
    λ from to first second is. c.in_err-to.ensures.none to second (number_parts _ _ _ from (decimal to) cut (omega arith) is).1 in
    if_none _ none
