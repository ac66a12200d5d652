use Rattle.std.proofs.Common.{◌-◌, ◌≡◌, ◌+◌, ◌*◌, ◌≤◌, ◌^◌, ℕ}
use Rattle.min_tree.proofs.nodes.width_for.Given as goal

-- the width is a power of two so far
pub record IsPower (count width : ℕ) : Type 0 where
  pub depth : ℕ
  pub is_width : width ≡ 2 ^ depth
  pub tight : width ≤ 2 * count + 1

abbrev pub invariant-loop-width : goal.invariant-loop-width
invariant-loop-width l = IsPower l.count l.width

abbrev pub decreases-loop-width : goal.decreases-loop-width
decreases-loop-width l = l.count - l.width
