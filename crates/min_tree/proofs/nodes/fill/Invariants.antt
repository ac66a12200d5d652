use Rattle.std.proofs.Common.{◌≡◌, ◌<◌, ◌≤◌, length, drop, ℕ, List, Option, ℤ}
use Rattle.min_tree.specs.Nodes.{IsLesserAt}
use Rattle.min_tree.proofs.nodes.fill.Given as goal

-- each inner node from a place on is the lesser of the two below it, and the leaves are as they were
pub record IsFilled (width : ℕ) (old nodes : List (Option ℤ)) (from : ℕ) : Type 0 where
  pub lesser : (place : ℕ) → 0 < place → from ≤ place → place < width → IsLesserAt nodes place
  pub leaves : drop width nodes ≡ drop width old
  pub len : length nodes ≡ length old
  pub within : from ≤ width

abbrev pub invariant-loop-place : goal.invariant-loop-place
invariant-loop-place l = IsFilled l.width l.fn.nodes l.nodes l.place

abbrev pub decreases-loop-place : goal.decreases-loop-place
decreases-loop-place l = l.place
