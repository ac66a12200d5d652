use Rattle.std.proofs.Common.{◌≡◌, ◌+◌, length, sym, ap, ◌∙◌, subst, arith}
use Rattle.std.specs.Prelude.{vec_len}
use Rattle.std.proofs.lemmas.List.{with_items_is}
use Rattle.min_tree.specs.Nodes.{IsTree}
use Rattle.min_tree.proofs.tree.LeastTree.build.Goals as goal

pub invariant_of-result : goal.invariant_of-result
invariant_of-result c =
    let nodes = c.extend_from_slice.new.self in
    let new = c.fill.new.nodes in
    let len : length new ≡ length nodes.items = c.fill.ensures.len ∙ ap length c.deref_mut.ensures.value in
    let resized : vec_len c.resize.new.self ≡ c.width_for-width.result = c.in_ok-resize.ensures.len in
    let extended : vec_len nodes ≡ vec_len c.resize.new.self + length c.args.values.now = c.in_ok-extend_from_slice.ensures.len in
    let count : length nodes.items ≡ c.width_for-width.result + length c.args.values.now = omega (arith, nodes.ok.0) in
    subst (IsTree c.width_for-width.result) (sym (with_items_is nodes new (len ∙ sym nodes.ok.0))) (record {
      depth = c.width_for-width.ensures.depth;
      is_width = c.width_for-width.ensures.is_width;
      inner = omega arith;
      leaves = omega (arith, c.width_for-width.ensures.enough);
      lesser = c.fill.ensures.lesser;
    })
