use Rattle.std.proofs.Common.{sym, subst}
use Rattle.due_list.specs.DueText.{IsDueText}
use Rattle.due_list.proofs.WriteLemmas.{writes_no_memory, writes_this}
use Rattle.due_list.proofs.due.write_due.Goals as goal

pub returns-in_err-text : goal.returns-in_err-text
returns-in_err-text g c = writes_no_memory _ c.from_residual.result (IsDueText c.args.table.now) c.from_residual.ensures.1

pub returns : goal.returns
returns g c =
    writes_this _ _ c.write_text.result c.deref.result.now (IsDueText c.args.table.now) (subst (IsDueText c.args.table.now) (sym c.deref.ensures) c.in_ok-text.ensures) c.write_text.ensures
