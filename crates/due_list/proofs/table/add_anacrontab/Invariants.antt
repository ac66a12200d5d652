use Rattle.std.proofs.Common.{length}
use Rattle.anacron_text.specs.TableReader.{anacron_rest_of}
use Rattle.due_list.proofs.FaultLemmas.{Added, AnacrontabLeft, AnacrontabWhole}
use Rattle.due_list.proofs.table.add_anacrontab.Given as goal

abbrev pub invariant-lines : goal.invariant-lines
invariant-lines l = Added (AnacrontabWhole l.above l.fn.lines.text) (AnacrontabLeft l.above l.lines) l.fn.faults.items l.faults.items

abbrev pub decreases-lines : goal.decreases-lines
decreases-lines l = length (anacron_rest_of l.lines)
