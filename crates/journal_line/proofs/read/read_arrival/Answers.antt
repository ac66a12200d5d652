use Rattle.std.proofs.Common.{codes}
use Rattle.script_text.proofs.CutLemmas.{if_none}
use Rattle.journal_line.specs.Line.{IsJournalLine}
use Rattle.journal_line.specs.Told.{ArrivalLine}
use Rattle.journal_line.specs.declared.line.Count.{Count}
use Rattle.journal_line.proofs.SpacedLemmas.{no_parts, not_behind}
use Rattle.journal_line.proofs.LineLemmas.{arrival_parts, late_part}
use Rattle.journal_line.proofs.read.read_arrival.Goals as goal

pub returns-in_err-number-clause-none : goal.returns-in_err-number-clause-none
returns-in_err-number-clause-none c =
    let none : (number late : Count) → IsJournalLine (ArrivalLine number late) c.args.line.now → ⊥ =
    λ number late is. no_parts c.args.line.now c.in_err-number.ensures.none is in
    if_none _ none

pub returns-in_err-number-2-clause-none : goal.returns-in_err-number-2-clause-none
returns-in_err-number-2-clause-none c =
    let none : (number late : Count) → IsJournalLine (ArrivalLine number late) c.args.line.now → ⊥ =
    λ number late is. c.in_err-number-2.ensures.none number (arrival_parts c.args.line.now _ _ c.in_ok-number.ensures.cut number late is).0 in
    if_none _ none

pub returns-in_err-late-clause-none : goal.returns-in_err-late-clause-none
returns-in_err-late-clause-none c =
    let none : (number late : Count) → IsJournalLine (ArrivalLine number late) c.args.line.now → ⊥ =
    λ number late is. not_behind (codes "- arrive") c.in_ok-number.rest.now c.in_err-late.ensures.none (arrival_parts c.args.line.now _ _ c.in_ok-number.ensures.cut number late is).1 in
    if_none _ none

pub returns-in_err-late-2-clause-none : goal.returns-in_err-late-2-clause-none
returns-in_err-late-2-clause-none c =
    let none : (number late : Count) → IsJournalLine (ArrivalLine number late) c.args.line.now → ⊥ =
    λ number late is. c.in_err-late-2.ensures.none late (late_part c.args.line.now _ _ _ c.in_ok-number.ensures.cut c.in_ok-late.ensures.rest number late is) in
    if_none _ none
