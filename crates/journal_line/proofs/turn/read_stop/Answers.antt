use Rattle.std.proofs.Common.{codes}
use Rattle.script_text.proofs.CutLemmas.{if_none}
use Rattle.journal_line.specs.Line.{IsTurn}
use Rattle.journal_line.specs.Told.{StopWithinTurn}
use Rattle.journal_line.specs.declared.line.CauseWords.{CauseWords}
use Rattle.std.specs.Prelude.{Bool}
use Rattle.journal_line.proofs.SpacedLemmas.{no_parts, not_behind}
use Rattle.journal_line.proofs.TurnLemmas.{stop_rest, stop_parts}
use Rattle.journal_line.proofs.turn.read_stop.Goals as goal

pub returns-in_err-rest-clause-none : goal.returns-in_err-rest-clause-none
returns-in_err-rest-clause-none c =
    let none : (kept : Bool) (cause : CauseWords) → IsTurn (StopWithinTurn kept cause) c.args.text.now → ⊥ =
    λ kept cause is. not_behind (codes "stop") c.args.text.now c.in_err-rest.ensures.none is in
    if_none _ none

pub returns-in_err-kept-clause-none : goal.returns-in_err-kept-clause-none
returns-in_err-kept-clause-none c =
    let none : (kept : Bool) (cause : CauseWords) → IsTurn (StopWithinTurn kept cause) c.args.text.now → ⊥ =
    λ kept cause is. no_parts c.in_ok-rest.rest.now c.in_err-kept.ensures.none (stop_rest c.args.text.now _ c.in_ok-rest.ensures.rest kept cause is) in
    if_none _ none

pub returns-in_err-kept-2-clause-none : goal.returns-in_err-kept-2-clause-none
returns-in_err-kept-2-clause-none c =
    let none : (kept : Bool) (cause : CauseWords) → IsTurn (StopWithinTurn kept cause) c.args.text.now → ⊥ =
    λ kept cause is. c.in_err-kept-2.ensures.none kept (stop_parts c.args.text.now _ _ _ c.in_ok-rest.ensures.rest c.in_ok-kept.ensures.cut kept cause is).0 in
    if_none _ none

pub returns-in_err-cause-clause-none : goal.returns-in_err-cause-clause-none
returns-in_err-cause-clause-none c =
    let none : (kept : Bool) (cause : CauseWords) → IsTurn (StopWithinTurn kept cause) c.args.text.now → ⊥ =
    λ kept cause is. c.in_err-cause.ensures.none cause (stop_parts c.args.text.now _ _ _ c.in_ok-rest.ensures.rest c.in_ok-kept.ensures.cut kept cause is).1 in
    if_none _ none
