use Rattle.std.proofs.Common.{length}
use Rattle.anacron_text.specs.TableReader.{anacron_rest_of}
use Rattle.run_text.proofs.AnacrontabLemmas.{Passed}
use Rattle.run_text.proofs.table.anacrontab_fault.Given as goal

abbrev pub invariant-lines : goal.invariant-lines
invariant-lines l = Passed l.fn.lines.text l.lines

abbrev pub decreases-lines : goal.decreases-lines
decreases-lines l = length (anacron_rest_of l.lines)
