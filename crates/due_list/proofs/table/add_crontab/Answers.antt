use Rattle.std.proofs.Common.{refl}
use Rattle.due_list.proofs.FaultLemmas.{CrontabWhole, crontab_start, crontab_more, crontab_all}
use Rattle.due_list.proofs.table.add_crontab.Goals as goal

pub lines-init : goal.lines-init
lines-init c = crontab_start c.args.above c.args.lines.now c.args.faults.now.items c.requires

pub lines-preserved : goal.lines-preserved
lines-preserved c =
    crontab_more c.args.above (CrontabWhole c.args.above c.args.lines.now) c.lines.lines c.next.new.self c.in-Some.line c.err.result c.args.faults.now.items c.lines.faults.items c.add_fault.new.faults.items
    c.lines.invariant c.in-Some.ensures.line c.err.ensures.value c.in_ok-add_fault.ensures

pub returns : goal.returns
returns c = crontab_all c.args.above (CrontabWhole c.args.above c.args.lines.now) c.lines.lines c.args.faults.now.items c.lines.faults.items c.lines.invariant (c.in_default.ensures.end.0 refl)
