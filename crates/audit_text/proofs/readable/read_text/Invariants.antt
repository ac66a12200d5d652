use Rattle.std.proofs.Common.{string_bytes, length}
use Rattle.audit_text.proofs.ReadLemmas.{IsReadSoFar}
use Rattle.audit_text.proofs.readable.read_text.Given as goal

abbrev pub invariant-lines : goal.invariant-lines
invariant-lines l = IsReadSoFar l.bytes l.rest (string_bytes l.text)

abbrev pub decreases-lines : goal.decreases-lines
decreases-lines l = length l.rest
