use Rattle.std.proofs.Common.{get_or, string_bytes, append-nil, sym}
use Rattle.std.proofs.lemmas.List.{get_or_default}
use Rattle.due_list.specs.CheckText.{fault_line}
use Rattle.due_list.specs.declared.fault.TableFault.{TableFault}
use Rattle.due_list.proofs.ListLemmas.{lines_more}
use Rattle.due_list.proofs.check.put_faults.Goals as goal

-- what a read past the end would give
abbrev default_fault : TableFault
default_fault = record { line = 0; cause = 0; place = 0 }

pub loop-fault-init : goal.loop-fault-init
loop-fault-init c = sym (append-nil (string_bytes c.args.into.now))

pub loop-fault-preserved : goal.loop-fault-preserved
loop-fault-preserved c =
    let faults = c.args.faults.now in
    let i = c.loop-fault.fault-index in
    lines_more fault_line faults i (get_or faults i default_fault) (string_bytes c.args.into.now) (string_bytes c.loop-fault.into) (string_bytes c.put_fault.new.into) c.loop-fault-test.true
    (get_or_default faults i _ _ c.loop-fault-test.true) c.loop-fault.invariant c.in_ok-put_fault.ensures
