use Rattle.std.proofs.Common.{to_z, of_z, w64, rules}
use Rattle.std.proofs.lemmas.Int.{to_z-of_z}
use Rattle.min_tree.proofs.DescentLemmas.{descend_left, descend_right, arrived}
use Rattle.min_tree.proofs.nodes.first_below.Goals as goal

pub loop-node-preserved-then-not-is_at_most : goal.loop-node-preserved-then-not-is_at_most
loop-node-preserved-then-not-is_at_most c =
    let limit = to_z w64 (of_z w64 c.args.limit) in
    descend_right c.args.width c.args.nodes.now c.args.top limit c.requires.tree c.loop-node.node c.loop-node-test.true c.loop-node.invariant (search rules)

pub loop-node-preserved : goal.loop-node-preserved
loop-node-preserved c =
    let limit = to_z w64 (of_z w64 c.args.limit) in
    descend_left c.args.width c.args.nodes.now c.args.top limit c.requires.tree c.loop-node.node c.loop-node-test.true c.loop-node.invariant (search rules)

pub returns : goal.returns
returns c = arrived c.args.width c.args.nodes.now c.args.top c.args.limit c.requires.tree c.loop-node.node c.loop-node-test.false (simp (to_z-of_z, c.ranges.limit) at c.loop-node.invariant)
