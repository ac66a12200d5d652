use Rattle.std.proofs.Common.{◌≢◌, ℕ, ◌<◌, ◌^◌, ◌∷◌, ◌++◌, decimal, arith}
use Rattle.script_text.proofs.CutLemmas.{cut_at_space, no_space, if_none}
use Rattle.script_text.proofs.OperandLemmas.{number_parts}
use Rattle.script_text.proofs.operands.read_two_numbers.Goals as goal

pub returns-in_err-first-clause-none : goal.returns-in_err-first-clause-none
returns-in_err-first-clause-none c =
    let none : (first second : ℕ) → first < 2 ^ 32 → second < 2 ^ 32 → c.args.text.now ≢ decimal first ++ 32 ∷ decimal second =
    λ first second small little is. no_space c.args.text.now c.in_err-first.ensures.cases (decimal first) (decimal second) is in
    if_none _ none

pub returns-in_err-first-2-clause-none : goal.returns-in_err-first-2-clause-none
returns-in_err-first-2-clause-none c =
    let cut = cut_at_space c.args.text.now (c.in_ok-first.first, c.in_ok-first.second) c.in_ok-first.ensures.cases in
    let none : (first second : ℕ) → first < 2 ^ 32 → second < 2 ^ 32 → c.args.text.now ≢ decimal first ++ 32 ∷ decimal second =
    λ first second small little is. c.in_err-first-2.ensures.none first (omega arith) (number_parts _ _ _ first (decimal second) cut (omega arith) is).0 in
    if_none _ none

pub returns-in_err-second-clause-none : goal.returns-in_err-second-clause-none
returns-in_err-second-clause-none c =
    let cut = cut_at_space c.args.text.now (c.in_ok-first.first, c.in_ok-first.second) c.in_ok-first.ensures.cases in
    let none : (first second : ℕ) → first < 2 ^ 32 → second < 2 ^ 32 → c.args.text.now ≢ decimal first ++ 32 ∷ decimal second =
    λ first second small little is. c.in_err-second.ensures.none second (omega arith) (number_parts _ _ _ first (decimal second) cut (omega arith) is).1 in
    if_none _ none
