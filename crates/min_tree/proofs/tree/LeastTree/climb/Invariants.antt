use Rattle.std.proofs.Common.{◌-◌}
use Rattle.min_tree.proofs.ClimbLemmas.{IsClimb}
use Rattle.min_tree.proofs.tree.LeastTree.climb.Given as goal

abbrev pub invariant-loop-start : goal.invariant-loop-start
invariant-loop-start l = IsClimb l.self-inside.width l.self-inside.nodes.items l.from l.limit l.node l.span l.start

abbrev pub decreases-loop-start : goal.decreases-loop-start
decreases-loop-start l = l.count - l.start
