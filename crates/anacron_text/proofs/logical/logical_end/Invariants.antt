use Rattle.std.proofs.Common.{◌-◌, length}
use Rattle.anacron_text.proofs.LogicalLemmas.{Reaches}
use Rattle.anacron_text.proofs.logical.logical_end.Given as goal

abbrev pub invariant-loop-bytes : goal.invariant-loop-bytes
invariant-loop-bytes l = Reaches l.text l.end

abbrev pub decreases-loop-bytes : goal.decreases-loop-bytes
decreases-loop-bytes l = length l.text - l.end
