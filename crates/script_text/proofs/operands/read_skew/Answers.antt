use Rattle.std.proofs.Common.{codes, decimal, ◌∙◌, ap}
use Rattle.script_text.proofs.CutLemmas.{strips, if_none}
use Rattle.script_text.proofs.OperandLemmas.{no_skew_behind, no_skew_of_zero}
use Rattle.script_text.proofs.operands.read_skew.Goals as goal

pub returns-in_err-behind-in-Some-clause-none : goal.returns-in_err-behind-in-Some-clause-none
returns-in_err-behind-in-Some-clause-none c =
    if_none _ (no_skew_behind c.args.text.now c.in-Some.digits.now (strips (codes "-") _ _ c.in-Some.ensures.cases) c.in_err-behind-in-Some.ensures.none)

pub returns-then-behind-eq0-clause-none : goal.returns-then-behind-eq0-clause-none
returns-then-behind-eq0-clause-none c =
    no_skew_of_zero c.args.text.now c.in-Some.digits.now (strips (codes "-") _ _ c.in-Some.ensures.cases)
    (c.in_ok-behind-in-Some.ensures.read.1 ∙ ap decimal c.if-behind-eq0.true)
