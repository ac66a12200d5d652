use Rattle.std.proofs.Common.{◌-◌, length}
use Rattle.anacron_text.proofs.LogicalLemmas.{HasNoNewline}
use Rattle.anacron_text.proofs.logical.line_end.Given as goal

abbrev pub invariant-loop-end : goal.invariant-loop-end
invariant-loop-end l = HasNoNewline l.bytes l.fn.from l.end

abbrev pub decreases-loop-end : goal.decreases-loop-end
decreases-loop-end l = length l.bytes - l.end
