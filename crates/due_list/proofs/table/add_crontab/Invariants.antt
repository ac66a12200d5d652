use Rattle.std.proofs.Common.{length}
use Rattle.crontab_text.specs.TableReader.{rest_of}
use Rattle.due_list.proofs.FaultLemmas.{Added, CrontabLeft, CrontabWhole}
use Rattle.due_list.proofs.table.add_crontab.Given as goal

abbrev pub invariant-lines : goal.invariant-lines
invariant-lines l = Added (CrontabWhole l.above l.fn.lines) (CrontabLeft l.above l.lines) l.fn.faults.items l.faults.items

abbrev pub decreases-lines : goal.decreases-lines
decreases-lines l = length (rest_of l.lines)
