use Rattle.std.proofs.Common.{ℤ, to_z, of_z, w64, sym, subst}
use Rattle.std.specs.Prelude.{IsTrue}
use Rattle.std.proofs.lemmas.Int.{to_z-of_z}
use Rattle.min_tree.specs.Least.{IsAtMost}
use Rattle.min_tree.proofs.LeastLemmas.{none_at_most}
use Rattle.min_tree.proofs.tree.LeastTree.first_at_most.Goals as goal

pub returns-else-is_at_most-clause-none : goal.returns-else-is_at_most-clause-none
returns-else-is_at_most-clause-none c = none_at_most c.args.self.now c.args.from c.args.limit c.least.result c.least.ensures.found c.least.ensures.none over
  where
    over : IsAtMost c.args.limit c.least.result → ⊥
    over most =
        let at : IsAtMost (to_z w64 (of_z w64 c.args.limit)) c.least.result = subst (λ (l : ℤ). IsAtMost l c.least.result) (sym (to_z-of_z w64 c.args.limit c.ranges.limit)) most in
        let yes : IsTrue c.is_at_most.result = c.is_at_most.ensures.1 at in
        cc
