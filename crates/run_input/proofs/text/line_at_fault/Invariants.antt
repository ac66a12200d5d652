use Rattle.std.proofs.Common.{◌+◌, ◌≤◌, length}
use Rattle.run_input.proofs.TextLemmas.{Passed}
use Rattle.run_input.proofs.text.line_at_fault.Given as goal

abbrev pub invariant-lines : goal.invariant-lines
invariant-lines l = record { passed : Passed l.bytes l.rest l.number; room : l.number + length l.rest ≤ length l.bytes + 1 }

abbrev pub decreases-lines : goal.decreases-lines
decreases-lines l = length l.rest
