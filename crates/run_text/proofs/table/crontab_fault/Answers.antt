use Rattle.std.proofs.Common.{refl, subst}
use Rattle.crontab_text.specs.Reader.{ReadsLine}
use Rattle.run_text.proofs.TableLemmas.{passing_next, passing_broken, passing_all, fault_within}
use Rattle.run_text.proofs.table.crontab_fault.Goals as goal

pub returns-in-Err-clause-fault : goal.returns-in-Err-clause-fault
returns-in-Err-clause-fault c =
    passing_broken c.args.lines.now.text c.args.lines.now.owner c.args.lines.now.style c.lines.lines c.next.new.self c.in-Err.fault c.lines.invariant
    (subst (ReadsLine c.lines.lines c.next.new.self) c.in-Err.is c.in-Some.ensures.line)

pub returns-in-Err-clause-within : goal.returns-in-Err-clause-within
returns-in-Err-clause-within c =
    fault_within c.args.lines.now.style c.args.lines.now.owner c.args.lines.now.text c.in-Err.fault
    (passing_broken c.args.lines.now.text c.args.lines.now.owner c.args.lines.now.style c.lines.lines c.next.new.self c.in-Err.fault c.lines.invariant
    (subst (ReadsLine c.lines.lines c.next.new.self) c.in-Err.is c.in-Some.ensures.line))

pub lines-preserved : goal.lines-preserved
lines-preserved c =
    passing_next c.args.lines.now.text c.args.lines.now.owner c.args.lines.now.style c.lines.lines c.next.new.self c.in_default-line.field-0 c.lines.invariant
    (subst (ReadsLine c.lines.lines c.next.new.self) c.in_default-line.is c.in-Some.ensures.line)

pub returns-clause-none : goal.returns-clause-none
returns-clause-none c =
    passing_all c.args.lines.now.text c.args.lines.now.owner c.args.lines.now.style c.lines.lines c.lines.invariant (c.in_default.ensures.end.0 refl)
