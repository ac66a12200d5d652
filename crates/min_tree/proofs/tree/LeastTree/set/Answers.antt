use Rattle.std.proofs.Common.{◌≡◌, ◌+◌, List, length, drop, Option, ℤ, sym, ap, ◌∙◌, subst}
use Rattle.std.specs.Prelude.{slice_set}
use Rattle.std.specs.Vec.{with_item}
use Rattle.std.proofs.lemmas.List.{drop-set-add, length-set, with_items_is}
use Rattle.min_tree.specs.Nodes.{IsTree}
use Rattle.min_tree.proofs.NodeLemmas.{tree_again}
use Rattle.min_tree.proofs.tree.LeastTree.set.Goals as goal

same_length : (c : goal.After-self-2-1) → length c.raise.new.nodes ≡ length c.self.inside.nodes.items
same_length c = c.raise.ensures.len ∙ ap length c.deref_mut.ensures.value ∙ length-set c.self.inside.nodes.items (c.self.inside.width + c.args.index) c.args.value

pub invariant_of-self : goal.invariant_of-self
invariant_of-self c =
    let nodes = c.self.inside.nodes in
    let width = c.self.inside.width in
    let new = c.raise.new.nodes in
    let len = same_length c in
    subst (IsTree width) (sym (with_items_is (with_item nodes (width + c.args.index) c.args.value) new (len ∙ sym nodes.ok.0)))
    (tree_again width nodes.items new c.self.invariant len c.raise.ensures.lesser)

pub returns : goal.returns
returns c =
    let nodes = c.self.inside.nodes in
    let width = c.self.inside.width in
    let new = c.raise.new.nodes in
    let kept = with_items_is (with_item nodes (width + c.args.index) c.args.value) new (same_length c ∙ sym nodes.ok.0) in
    ap (drop width) kept ∙ c.raise.ensures.leaves ∙ ap (drop width) c.deref_mut.ensures.value ∙ drop-set-add width nodes.items c.args.index c.args.value
    ∙ ap (λ (values : List (Option ℤ)). slice_set values c.args.index c.args.value) c.self.view_is
