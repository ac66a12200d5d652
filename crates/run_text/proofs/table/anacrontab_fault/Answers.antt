use Rattle.std.proofs.Common.{refl, subst}
use Rattle.anacron_text.specs.Reader.{ReadsAnacronLine}
use Rattle.anacron_text.specs.Settings.{no_settings}
use Rattle.run_text.proofs.AnacrontabLemmas.{passed_next, passed_broken, passed_all}
use Rattle.run_text.proofs.CountLemmas.{break_within}
use Rattle.run_text.proofs.table.anacrontab_fault.Goals as goal

pub returns-in-Err-clause-fault : goal.returns-in-Err-clause-fault
returns-in-Err-clause-fault c =
    passed_broken c.args.lines.now.text c.lines.lines c.next.new.self c.in-Err.fault c.lines.invariant
    (subst (ReadsAnacronLine c.lines.lines c.next.new.self) c.in-Err.is c.in-Some.ensures.line)

pub returns-in-Err-clause-within : goal.returns-in-Err-clause-within
returns-in-Err-clause-within c =
    break_within no_settings c.args.lines.now.text _ _ _
    (passed_broken c.args.lines.now.text c.lines.lines c.next.new.self c.in-Err.fault c.lines.invariant
    (subst (ReadsAnacronLine c.lines.lines c.next.new.self) c.in-Err.is c.in-Some.ensures.line))

pub lines-preserved : goal.lines-preserved
lines-preserved c =
    passed_next c.args.lines.now.text c.lines.lines c.next.new.self c.in_default-logical.field-0 c.lines.invariant
    (subst (ReadsAnacronLine c.lines.lines c.next.new.self) c.in_default-logical.is c.in-Some.ensures.line)

pub returns-clause-none : goal.returns-clause-none
returns-clause-none c = passed_all c.args.lines.now.text c.lines.lines c.lines.invariant (c.in_default.ensures.end.0 refl)
