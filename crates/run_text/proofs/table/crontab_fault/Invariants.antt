use Rattle.std.proofs.Common.{length}
use Rattle.crontab_text.specs.TableReader.{rest_of}
use Rattle.run_text.proofs.TableLemmas.{Passing}
use Rattle.run_text.proofs.table.crontab_fault.Given as goal

abbrev pub invariant-lines : goal.invariant-lines
invariant-lines l = Passing l.fn.lines.text l.fn.lines.owner l.fn.lines.style l.lines

abbrev pub decreases-lines : goal.decreases-lines
decreases-lines l = length (rest_of l.lines)
