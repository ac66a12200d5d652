use Rattle.std.proofs.Common.{◌≡◌, ◌+◌, length}
use Rattle.crontab_text.specs.Lines.{lines_of}
use Rattle.audit_text.proofs.difference.lines_in.Given as goal

abbrev pub invariant-lines : goal.invariant-lines
invariant-lines l = l.count + length (lines_of l.rest) ≡ length (lines_of l.text)

abbrev pub decreases-lines : goal.decreases-lines
decreases-lines l = length l.rest
