use Rattle.std.proofs.Common.{length}
use Rattle.audit_text.proofs.PartLemmas.{Searches}
use Rattle.audit_text.proofs.parts.from_report.Given as goal

abbrev pub invariant-lines : goal.invariant-lines
invariant-lines l = Searches l.input l.rest l.found

abbrev pub decreases-lines : goal.decreases-lines
decreases-lines l = length l.rest
