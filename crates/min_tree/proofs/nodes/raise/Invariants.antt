use Rattle.std.proofs.Common.{◌≡◌, ◌<◌, length, drop, ℕ, List, Option, ℤ}
use Rattle.min_tree.specs.Nodes.{AreLesserBut}
use Rattle.min_tree.proofs.nodes.raise.Given as goal

-- each inner node but one is the lesser of the two below it, and the leaves are as they were
pub record IsRaised (width : ℕ) (old nodes : List (Option ℤ)) (place : ℕ) : Type 0 where
  pub others : AreLesserBut width nodes place
  pub leaves : drop width nodes ≡ drop width old
  pub len : length nodes ≡ length old
  pub inner : place < width

abbrev pub invariant-loop-place : goal.invariant-loop-place
invariant-loop-place l = IsRaised l.width l.fn.nodes l.nodes l.place

abbrev pub decreases-loop-place : goal.decreases-loop-place
decreases-loop-place l = l.place
