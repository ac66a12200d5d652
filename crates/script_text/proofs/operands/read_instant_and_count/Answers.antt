use Rattle.std.proofs.Common.{◌≢◌, ℕ, ℤ, ◌∷◌, ◌++◌, decimal, sym, ◌∙◌, arith}
use Rattle.std.proofs.lemmas.Fmt.{decimal_injective}
use Rattle.zone_minutes.specs.Stamp.{stamp_text}
use Rattle.script_text.specs.Command.{IsStampIn, IsCount}
use Rattle.script_text.proofs.CutLemmas.{cut_at_space, no_space, if_none}
use Rattle.script_text.proofs.OperandLemmas.{stamp_parts}
use Rattle.script_text.proofs.operands.read_instant_and_count.Goals as goal

pub returns-in_err-at-clause-none : goal.returns-in_err-at-clause-none
returns-in_err-at-clause-none c =
    let none : (at : ℤ) (count : ℕ) → IsStampIn c.args.window.now at → IsCount c.args.last count → c.args.text.now ≢ stamp_text at ++ 32 ∷ decimal count =
    λ at count inside few is. no_space c.args.text.now c.in_err-at.ensures.cases (stamp_text at) (decimal count) is in
    if_none _ none

pub returns-in_err-at-2-clause-none : goal.returns-in_err-at-2-clause-none
returns-in_err-at-2-clause-none c =
    let cut = cut_at_space c.args.text.now (c.in_ok-at.at, c.in_ok-at.count) c.in_ok-at.ensures.cases in
    let none : (at : ℤ) (count : ℕ) → IsStampIn c.args.window.now at → IsCount c.args.last count → c.args.text.now ≢ stamp_text at ++ 32 ∷ decimal count =
    λ at count inside few is. c.in_err-at-2.ensures.none at inside (stamp_parts _ _ _ at (decimal count) cut is).0 in
    if_none _ none

pub returns-in_err-count-clause-none : goal.returns-in_err-count-clause-none
returns-in_err-count-clause-none c =
    let cut = cut_at_space c.args.text.now (c.in_ok-at.at, c.in_ok-at.count) c.in_ok-at.ensures.cases in
    let none : (at : ℤ) (count : ℕ) → IsStampIn c.args.window.now at → IsCount c.args.last count → c.args.text.now ≢ stamp_text at ++ 32 ∷ decimal count =
    λ at count inside few is. c.in_err-count.ensures.none count few.most (stamp_parts _ _ _ at (decimal count) cut is).1 in
    if_none _ none

pub returns-then-count-eq0-clause-none : goal.returns-then-count-eq0-clause-none
returns-then-count-eq0-clause-none c = λ at count inside few is.
    let fits = c.ranges.last.fits in
    let cut = cut_at_space c.args.text.now (c.in_ok-at.at, c.in_ok-at.count) c.in_ok-at.ensures.cases in
    let read = c.in_ok-count.ensures.read in
    let same = decimal_injective c.in_ok-count.count count (omega (arith, read.0)) (omega (arith, few.most)) (sym read.1 ∙ (stamp_parts _ _ _ at (decimal count) cut is).1) in
    omega (arith, same, few.some, c.if-count-eq0.true)
