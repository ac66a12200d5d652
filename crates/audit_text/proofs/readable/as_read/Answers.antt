use Rattle.std.proofs.Common.{sym, ◌∙◌}
use Rattle.audit_text.proofs.ReadLemmas.{read_as_it_is, read_as_none}
use Rattle.audit_text.proofs.readable.as_read.Goals as goal

pub returns-in-Ok : goal.returns-in-Ok
returns-in-Ok c = c.in-Ok.ensures.cases.0 ∙ sym (read_as_it_is c.args.line.now c.in-Ok.ensures.cases.1)

pub returns-in-Err : goal.returns-in-Err
returns-in-Err c = sym (read_as_none c.args.line.now c.in-Err.ensures.cases.0)
