use Rattle.std.proofs.Common.{length}
use Rattle.audit_text.proofs.ReadLemmas.{AreSame}
use Rattle.audit_text.proofs.difference.first_other_line.Given as goal

abbrev pub invariant-lines : goal.invariant-lines
invariant-lines l = AreSame l.text l.expected l.rest l.wanted l.number

abbrev pub decreases-lines : goal.decreases-lines
decreases-lines l = length l.rest
