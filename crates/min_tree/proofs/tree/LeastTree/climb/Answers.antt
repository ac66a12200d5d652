use Rattle.std.proofs.Common.{◌≡◌, ◌+◌, ◌-◌, ◌*◌, ◌/◌, ◌<◌, ◌≤◌, List, length, Option, ℤ, to_z, of_z, w64, ap, subst, arith, rules}
use Rattle.std.proofs.lemmas.Int.{to_z-of_z}
use Rattle.std.proofs.lemmas.List.{length-drop}
use Rattle.min_tree.specs.Least.{IsFirstAtMost, HasNoneAtMost}
use Rattle.min_tree.specs.Nodes.{IsFirstBelow}
use Rattle.min_tree.proofs.ClimbLemmas.{IsClimb, IsFoundLeaf, climb_start, climb_over, climb_right, climb_up, climb_found, climb_none}
use Rattle.min_tree.proofs.tree.LeastTree.climb.Goals as goal

pub loop-start-init : goal.loop-start-init
loop-start-init c = climb_start c.self.inside.width c.self.inside.nodes.items c.args.from (to_z w64 (of_z w64 c.args.limit)) c.self.invariant

-- the leaf that is found, as the first of the list
found : (c : goal.After-first_below-leaf) → IsFoundLeaf c.self.inside.width c.self.inside.nodes.items c.args.from c.args.limit c.first_below-leaf.result
found c =
    let width = c.self.inside.width in
    let nodes = c.self.inside.nodes.items in
    let limit = to_z-of_z w64 c.args.limit c.ranges.limit in
    let before : c.loop-start.start < length nodes - width = omega (arith, ap length c.self.view_is, length-drop width nodes, c.len-count.ensures) in
    let climb : IsClimb width nodes c.args.from c.args.limit c.loop-start.node c.loop-start.span c.loop-start.start
    = subst (λ (l : ℤ). IsClimb width nodes c.args.from l c.loop-start.node c.loop-start.span c.loop-start.start) limit c.loop-start.invariant in
    let over = climb_over width nodes c.args.from c.args.limit c.self.invariant c.loop-start.node c.loop-start.span c.loop-start.start climb before in
    let below : IsFirstBelow c.deref-then-is_at_most.result.now c.loop-start.node c.loop-start.span (to_z w64 (of_z w64 c.args.limit)) c.first_below-leaf.result
    = c.first_below-leaf.ensures c.loop-start.span over in
    let first : IsFirstBelow nodes c.loop-start.node c.loop-start.span c.args.limit c.first_below-leaf.result
    = subst (λ (l : ℤ). IsFirstBelow nodes c.loop-start.node c.loop-start.span l c.first_below-leaf.result) limit
    (subst (λ (n : List (Option ℤ)). IsFirstBelow n c.loop-start.node c.loop-start.span (to_z w64 (of_z w64 c.args.limit)) c.first_below-leaf.result) c.deref-then-is_at_most.ensures.value below) in
    climb_found width nodes c.args.from c.args.limit c.self.invariant c.loop-start.node c.loop-start.span c.loop-start.start c.first_below-leaf.result climb first

pub overflow_sub-result : goal.overflow_sub-result
overflow_sub-result c = (found c).leaf

pub returns-then-is_at_most-clause-found : goal.returns-then-is_at_most-clause-found
returns-then-is_at_most-clause-found c =
    subst (λ (values : List (Option ℤ)). IsFirstAtMost values c.args.from c.args.limit (c.first_below-leaf.result - c.self.inside.width)) c.self.view_is (found c).first

pub loop-start-preserved-then-node-eq1 : goal.loop-start-preserved-then-node-eq1
loop-start-preserved-then-node-eq1 c =
    let width = c.self.inside.width in
    let nodes = c.self.inside.nodes.items in
    let before : c.loop-start.start < length nodes - width = omega (arith, ap length c.self.view_is, length-drop width nodes, c.len-count.ensures) in
    let odd : c.loop-start.node ≡ 2 * (c.loop-start.node / 2) + 1 = omega arith in
    climb_up width nodes c.args.from (to_z w64 (of_z w64 c.args.limit)) c.self.invariant c.loop-start.node (c.loop-start.node / 2) c.loop-start.span c.loop-start.start odd c.loop-start.invariant before (search rules)

pub loop-start-preserved : goal.loop-start-preserved
loop-start-preserved c =
    let width = c.self.inside.width in
    let nodes = c.self.inside.nodes.items in
    let before : c.loop-start.start < length nodes - width = omega (arith, ap length c.self.view_is, length-drop width nodes, c.len-count.ensures) in
    climb_right width nodes c.args.from (to_z w64 (of_z w64 c.args.limit)) c.self.invariant c.loop-start.node c.loop-start.span c.loop-start.start c.loop-start.invariant before (search rules)

pub returns-clause-none : goal.returns-clause-none
returns-clause-none c =
    let width = c.self.inside.width in
    let nodes = c.self.inside.nodes.items in
    let limit = to_z-of_z w64 c.args.limit c.ranges.limit in
    let climb : IsClimb width nodes c.args.from c.args.limit c.loop-start.node c.loop-start.span c.loop-start.start
    = subst (λ (l : ℤ). IsClimb width nodes c.args.from l c.loop-start.node c.loop-start.span c.loop-start.start) limit c.loop-start.invariant in
    let past : length nodes - width ≤ c.loop-start.start = omega (arith, ap length c.self.view_is, length-drop width nodes, c.len-count.ensures) in
    subst (λ (values : List (Option ℤ)). HasNoneAtMost values c.args.from c.args.limit) c.self.view_is
    (climb_none width nodes c.args.from c.args.limit c.self.invariant c.loop-start.node c.loop-start.span c.loop-start.start climb past)
