use Rattle.script_text.proofs.CutLemmas.{if_none}
use Rattle.journal_line.specs.Line.{IsJournalLine}
use Rattle.journal_line.specs.Told.{ToldTurn, TurnLine}
use Rattle.journal_line.specs.declared.line.Count.{Count}
use Rattle.journal_line.proofs.SpacedLemmas.{no_parts}
use Rattle.journal_line.proofs.LineLemmas.{turn_parts, replica_parts}
use Rattle.journal_line.proofs.read.read_numbered.Goals as goal

pub returns-in_err-number-clause-none : goal.returns-in_err-number-clause-none
returns-in_err-number-clause-none c =
    let none : (number replica : Count) (turn : ToldTurn) → IsJournalLine (TurnLine number replica turn) c.args.line.now → ⊥ =
    λ number replica turn is. no_parts c.args.line.now c.in_err-number.ensures.none is in
    if_none _ none

pub returns-in_err-number-2-clause-none : goal.returns-in_err-number-2-clause-none
returns-in_err-number-2-clause-none c =
    let none : (number replica : Count) (turn : ToldTurn) → IsJournalLine (TurnLine number replica turn) c.args.line.now → ⊥ =
    λ number replica turn is. c.in_err-number-2.ensures.none number (turn_parts c.args.line.now _ _ c.in_ok-number.ensures.cut number replica turn is).0 in
    if_none _ none

pub returns-in_err-replica-clause-none : goal.returns-in_err-replica-clause-none
returns-in_err-replica-clause-none c =
    let none : (number replica : Count) (turn : ToldTurn) → IsJournalLine (TurnLine number replica turn) c.args.line.now → ⊥ =
    λ number replica turn is. no_parts c.in_ok-number.rest.now c.in_err-replica.ensures.none (turn_parts c.args.line.now _ _ c.in_ok-number.ensures.cut number replica turn is).1 in
    if_none _ none

pub returns-in_err-replica-2-clause-none : goal.returns-in_err-replica-2-clause-none
returns-in_err-replica-2-clause-none c =
    let none : (number replica : Count) (turn : ToldTurn) → IsJournalLine (TurnLine number replica turn) c.args.line.now → ⊥ =
    λ number replica turn is.
    c.in_err-replica-2.ensures.none replica (replica_parts c.args.line.now _ _ _ _ c.in_ok-number.ensures.cut c.in_ok-replica.ensures.cut number replica turn is).0 in
    if_none _ none

pub returns-in_err-words-clause-none : goal.returns-in_err-words-clause-none
returns-in_err-words-clause-none c =
    let none : (number replica : Count) (turn : ToldTurn) → IsJournalLine (TurnLine number replica turn) c.args.line.now → ⊥ =
    λ number replica turn is.
    c.in_err-words.ensures.none turn (replica_parts c.args.line.now _ _ _ _ c.in_ok-number.ensures.cut c.in_ok-replica.ensures.cut number replica turn is).1 in
    if_none _ none
