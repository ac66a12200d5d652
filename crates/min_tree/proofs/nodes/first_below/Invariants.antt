use Rattle.std.proofs.Common.{◌-◌}
use Rattle.min_tree.proofs.DescentLemmas.{IsDescent}
use Rattle.min_tree.proofs.nodes.first_below.Given as goal

abbrev pub invariant-loop-node : goal.invariant-loop-node
invariant-loop-node l = IsDescent l.width l.nodes l.top l.limit l.node

abbrev pub decreases-loop-node : goal.decreases-loop-node
decreases-loop-node l = l.width - l.node
