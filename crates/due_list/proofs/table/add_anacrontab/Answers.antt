use Rattle.std.proofs.Common.{refl}
use Rattle.due_list.proofs.FaultLemmas.{AnacrontabWhole, anacrontab_start, anacrontab_more, anacrontab_all}
use Rattle.due_list.proofs.table.add_anacrontab.Goals as goal

pub lines-init : goal.lines-init
lines-init c = anacrontab_start c.args.above c.args.lines.now c.args.faults.now.items c.requires

pub lines-preserved : goal.lines-preserved
lines-preserved c =
    anacrontab_more c.args.above (AnacrontabWhole c.args.above c.args.lines.now.text) c.lines.lines c.next.new.self c.in-Some.logical c.err.result c.args.faults.now.items c.lines.faults.items c.add_fault.new.faults.items
    c.lines.invariant c.in-Some.ensures.line c.err.ensures.value c.in_ok-add_fault.ensures

pub returns : goal.returns
returns c =
    anacrontab_all c.args.above (AnacrontabWhole c.args.above c.args.lines.now.text) c.lines.lines c.args.faults.now.items c.lines.faults.items c.lines.invariant (c.in_default.ensures.end.0 refl)
