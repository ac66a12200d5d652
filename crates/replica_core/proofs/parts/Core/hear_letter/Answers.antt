use Rattle.std.proofs.Common.{refl, sym, ◌∙◌}
use Rattle.std.proofs.lemmas.Result.{err_from_is_err_and}
use Rattle.replica_core.proofs.PlanLemmas.{hears-letter, hears-nothing, no-fault}
use Rattle.replica_core.proofs.parts.Core.hear_letter.Goals as goal

pub returns-in_err-letter-clause-fault : goal.returns-in_err-letter-clause-fault
returns-in_err-letter-clause-fault c =
    let told = err_from_is_err_and c.from_residual.result c.from_residual.ensures.1 in
    rw (told.1, told.2) (sym ((c.read.ensures.fault c.in_err-letter.field-0.0).0 c.in_err-letter.was))

pub returns-in_err-hear_all-clause-fault : goal.returns-in_err-hear_all-clause-fault
returns-in_err-hear_all-clause-fault c =
    let told = err_from_is_err_and c.from_residual-in_err-hear_all.result c.from_residual-in_err-hear_all.ensures.1 in
    rw (told.1, told.2) (no-fault c.in_ok-letter.letter _ c.in_ok-letter.ensures.fault)

pub returns-in_ok-hear_all-clause-fault : goal.returns-in_ok-hear_all-clause-fault
returns-in_ok-hear_all-clause-fault c = no-fault c.in_ok-letter.letter _ c.in_ok-letter.ensures.fault

pub returns-else-is_small_letter-clause-makes : goal.returns-else-is_small_letter-clause-makes
returns-else-is_small_letter-clause-makes c =
    let letter = c.in_ok-letter.letter in
    hears-letter c.args.table.now _ letter.from letter.packets c.args.bytes.now c.args.self.now c.args.draft.now c.in_ok-letter.ensures.found refl
    (hears-nothing _ letter.from letter.packets c.args.self.now c.args.draft.now
    (rw (← c.table_size.ensures.size) (sym c.is_small_letter.ensures ∙ c.if-is_small_letter.false)) c.requires.idle.stands)

pub returns-else-is_small_letter-clause-fault : goal.returns-else-is_small_letter-clause-fault
returns-else-is_small_letter-clause-fault c = no-fault c.in_ok-letter.letter _ c.in_ok-letter.ensures.fault
