use Rattle.std.proofs.Common.{◌≡◌, List, Option, ℤ, subst}
use Rattle.std.specs.Prelude.{IfSome, IfNone}
use Rattle.min_tree.specs.Least.{HasNone, IsLeast}
use Rattle.min_tree.specs.Nodes.{node_at}
use Rattle.min_tree.proofs.LeafLemmas.{root_is_least, root_is_none}
use Rattle.min_tree.proofs.tree.LeastTree.least.Goals as goal

pub returns-clause-found : goal.returns-clause-found
returns-clause-found c =
    let root : node_at c.self.inside.nodes.items 1 ≡ c.node_at.result = cc in
    subst (λ (values : List (Option ℤ)). IfSome c.node_at.result (IsLeast values)) c.self.view_is (root_is_least c.self.inside.width c.self.inside.nodes.items c.self.invariant c.node_at.result root)

pub returns-clause-none : goal.returns-clause-none
returns-clause-none c =
    let root : node_at c.self.inside.nodes.items 1 ≡ c.node_at.result = cc in
    subst (λ (values : List (Option ℤ)). IfNone c.node_at.result (HasNone values)) c.self.view_is (root_is_none c.self.inside.width c.self.inside.nodes.items c.self.invariant c.node_at.result root)
