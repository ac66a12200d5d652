use Rattle.std.proofs.Common.{◌≡◌, ◌++◌, map, take, string_bytes}
use Rattle.cron_io.specs.Lines.{text_of_lines}
use Rattle.due_list.specs.CheckText.{fault_line}
use Rattle.due_list.proofs.check.put_faults.Given as goal

abbrev pub invariant-loop-fault : goal.invariant-loop-fault
invariant-loop-fault l = string_bytes l.into ≡ string_bytes l.fn.into ++ text_of_lines (map fault_line (take l.fault-index l.faults))
