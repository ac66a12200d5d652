use Rattle.script_text.proofs.CutLemmas.{if_none}
use Rattle.journal_line.proofs.TurnLemmas.{answer_parts, no_answer, no_kind}
use Rattle.journal_line.proofs.turn.read_answer.Goals as goal

pub returns-in_err-name-clause-none : goal.returns-in_err-name-clause-none
returns-in_err-name-clause-none c = if_none _ (no_answer c.args.text.now c.in_err-name.ensures.none)

pub returns-in_err-kind-clause-none : goal.returns-in_err-kind-clause-none
returns-in_err-kind-clause-none c = if_none _ (no_kind c.args.text.now _ _ c.in_ok-name.ensures.cut c.in_err-kind.ensures.none)

pub returns-else-is_name-clause-none : goal.returns-else-is_name-clause-none
returns-else-is_name-clause-none c = λ answer is.
    let yes = c.is_name.ensures.1 (answer_parts c.args.text.now _ _ c.in_ok-name.ensures.cut answer is).0.word in
    cc (yes, c.if-is_name.false)
