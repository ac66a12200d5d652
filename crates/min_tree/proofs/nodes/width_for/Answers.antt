use Rattle.std.proofs.Common.{suc, arith}
use Rattle.min_tree.proofs.nodes.width_for.Goals as goal

pub loop-width-preserved : goal.loop-width-preserved
loop-width-preserved c = record {
  depth = suc c.loop-width.invariant.depth;
  is_width = omega arith;
  tight = omega arith;
}
