use Rattle.std.proofs.Common.{length}
use Rattle.audit_text.proofs.PartLemmas.{Passes}
use Rattle.audit_text.proofs.parts.behind_report.Given as goal

abbrev pub invariant-lines : goal.invariant-lines
invariant-lines l = Passes l.text l.rest

abbrev pub decreases-lines : goal.decreases-lines
decreases-lines l = length l.rest
