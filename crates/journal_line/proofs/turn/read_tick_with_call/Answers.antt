use Rattle.std.proofs.Common.{codes}
use Rattle.script_text.proofs.CutLemmas.{if_none}
use Rattle.zone_minutes.specs.declared.minute.Minute.{Minute}
use Rattle.journal_line.specs.Line.{IsTurn}
use Rattle.journal_line.specs.Told.{ToldCall, CallTurn}
use Rattle.journal_line.proofs.SpacedLemmas.{no_parts, not_behind}
use Rattle.journal_line.proofs.TurnLemmas.{call_rest, call_parts}
use Rattle.journal_line.proofs.turn.read_tick_with_call.Goals as goal

pub returns-in_err-rest-clause-none : goal.returns-in_err-rest-clause-none
returns-in_err-rest-clause-none c =
    let none : (now : Minute) (call : ToldCall) → IsTurn (CallTurn now call) c.args.text.now → ⊥ =
    λ now call is. not_behind (codes "tick") c.args.text.now c.in_err-rest.ensures.none is in
    if_none _ none

pub returns-in_err-stamp-clause-none : goal.returns-in_err-stamp-clause-none
returns-in_err-stamp-clause-none c =
    let none : (now : Minute) (call : ToldCall) → IsTurn (CallTurn now call) c.args.text.now → ⊥ =
    λ now call is. no_parts c.in_ok-rest.rest.now c.in_err-stamp.ensures.none (call_rest c.args.text.now _ c.in_ok-rest.ensures.rest now call is) in
    if_none _ none

pub returns-in_err-now-clause-none : goal.returns-in_err-now-clause-none
returns-in_err-now-clause-none c =
    let none : (now : Minute) (call : ToldCall) → IsTurn (CallTurn now call) c.args.text.now → ⊥ =
    λ now call is.
    let stamp = (call_parts c.args.text.now _ _ _ c.in_ok-rest.ensures.rest c.in_ok-stamp.ensures.cut now call is).0 in
    c.in_err-now.ensures.none now.0 stamp.calendar stamp.is in
    if_none _ none

pub returns-in_err-call-clause-none : goal.returns-in_err-call-clause-none
returns-in_err-call-clause-none c =
    let none : (now : Minute) (call : ToldCall) → IsTurn (CallTurn now call) c.args.text.now → ⊥ =
    λ now call is. c.in_err-call.ensures.none call (call_parts c.args.text.now _ _ _ c.in_ok-rest.ensures.rest c.in_ok-stamp.ensures.cut now call is).1 in
    if_none _ none
