use Rattle.script_text.proofs.CutLemmas.{if_none}
use Rattle.journal_line.proofs.SpacedLemmas.{no_parts}
use Rattle.journal_line.proofs.TurnLemmas.{no_call, no_fate_part, no_answer_part}
use Rattle.journal_line.proofs.turn.read_call.Goals as goal

pub returns-in_err-fate-clause-none : goal.returns-in_err-fate-clause-none
returns-in_err-fate-clause-none c =
    if_none _ (no_call c.args.text.now c.in_default.ensures.none (λ fate answer is. no_parts c.args.text.now c.in_err-fate.ensures.none is))

pub returns-in_err-fate-2-clause-none : goal.returns-in_err-fate-2-clause-none
returns-in_err-fate-2-clause-none c =
    if_none _ (no_call c.args.text.now c.in_default.ensures.none (no_fate_part c.args.text.now _ _ c.in_ok-fate.ensures.cut c.in_err-fate-2.ensures.none))

pub returns-in_err-answer-clause-none : goal.returns-in_err-answer-clause-none
returns-in_err-answer-clause-none c =
    if_none _ (no_call c.args.text.now c.in_default.ensures.none (no_answer_part c.args.text.now _ _ c.in_ok-fate.ensures.cut c.in_err-answer.ensures.none))
