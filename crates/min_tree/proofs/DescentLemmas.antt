-- The way from a node down to the first leaf that is at most a limit.
use Rattle.std.proofs.Common.{◌≡◌, ℕ, zero, suc, ◌+◌, ◌*◌, ◌^◌, ◌<◌, ◌≤◌, inl, inr, List, Option, ℤ, refl, sym, ap, ◌∙◌, subst, arith}
use Rattle.std.proofs.lemmas.Bool.{cases_lt}
use Rattle.std.proofs.lemmas.Nat.{pow_pos}
use Rattle.min_tree.specs.Least.{IsAtMost}
use Rattle.min_tree.specs.Nodes.{IsTree, IsOver, IsFirstBelow, IsLesserAt, node_at}
use Rattle.min_tree.proofs.LesserLemmas.{lesser_either}
use Rattle.min_tree.proofs.NodeLemmas.{AreHalves, halves, node_from_leaf, some_width}

-- the node is below the top, and the leaves of the top before its own are over the limit
pub record IsDown (width : ℕ) (nodes : List (Option ℤ)) (top span : ℕ) (limit : ℤ) (node : ℕ) : Type 0 where
  pub part : ℕ
  pub over : IsOver width node part
  pub first : top * span ≤ node * part
  pub last : (node + 1) * part ≤ (top + 1) * span
  pub none_before : (before : ℕ) → top * span ≤ before → before < node * part → IsAtMost limit (node_at nodes before) → ⊥

-- a node that is at most the limit, and where it is
pub record IsDescent (width : ℕ) (nodes : List (Option ℤ)) (top : ℕ) (limit : ℤ) (node : ℕ) : Type 0 where
  pub positive : 0 < node
  pub there : IsAtMost limit (node_at nodes node)
  pub down : (span : ℕ) → IsOver width top span → IsDown width nodes top span limit node

module _ (width : ℕ) (nodes : List (Option ℤ)) (top : ℕ) (limit : ℤ) (tree : IsTree width nodes) where
  some : 0 < width
  some = some_width width nodes tree

  left_down : (node span height : ℕ) → (down : IsDown width nodes top span limit node) → down.over.height ≡ height → node < width
      → IsDown width nodes top span limit (2 * node)
  left_down node span zero down e inner =
      let one : down.part ≡ 1 = down.over.is_span ∙ ap (λ (h : ℕ). 2 ^ h) e in
      let first : width ≤ node * 1 = subst (λ (s : ℕ). width ≤ node * s) one down.over.first in
      absurd (omega arith)
  left_down node span (suc height) down e inner =
      let half = 2 ^ height in
      let power : down.part ≡ 2 ^ suc height = down.over.is_span ∙ ap (λ (h : ℕ). 2 ^ h) e in
      let twice : down.part ≡ 2 * half = omega arith in
      let is : AreHalves width node half = halves width node down.part half twice some (pow_pos height) down.over.first down.over.last in
      let first : top * span ≤ node * (2 * half) = subst (λ (s : ℕ). top * span ≤ node * s) twice down.first in
      let last : (node + 1) * (2 * half) ≤ (top + 1) * span = subst (λ (s : ℕ). (node + 1) * s ≤ (top + 1) * span) twice down.last in
      record {
        part = half;
        over = record { height = height; is_span = refl; first = is.first; last = is.left_last };
        first = omega arith;
        last = omega arith;
        none_before = λ before since lt. down.none_before before since (subst (λ (s : ℕ). before < node * s) (sym twice) (omega arith));
      }

  right_down : (node span height : ℕ) → (down : IsDown width nodes top span limit node) → down.over.height ≡ height → node < width
      → (IsAtMost limit (node_at nodes (2 * node)) → ⊥) → IsDown width nodes top span limit (2 * node + 1)
  right_down node span zero down e inner over =
      let one : down.part ≡ 1 = down.over.is_span ∙ ap (λ (h : ℕ). 2 ^ h) e in
      let first : width ≤ node * 1 = subst (λ (s : ℕ). width ≤ node * s) one down.over.first in
      absurd (omega arith)
  right_down node span (suc height) down e inner over =
      let half = 2 ^ height in
      let power : down.part ≡ 2 ^ suc height = down.over.is_span ∙ ap (λ (h : ℕ). 2 ^ h) e in
      let twice : down.part ≡ 2 * half = omega arith in
      let is : AreHalves width node half = halves width node down.part half twice some (pow_pos height) down.over.first down.over.last in
      let first : top * span ≤ node * (2 * half) = subst (λ (s : ℕ). top * span ≤ node * s) twice down.first in
      let last : (node + 1) * (2 * half) ≤ (top + 1) * span = subst (λ (s : ℕ). (node + 1) * s ≤ (top + 1) * span) twice down.last in
      record {
        part = half;
        over = record { height = height; is_span = refl; first = is.right_first; last = is.last };
        first = omega arith;
        last = omega arith;
        none_before = λ before since lt most. elim (cases_lt before (2 * node * half)) [
          | inl left ↦ down.none_before before since (subst (λ (s : ℕ). before < node * s) (sym twice) (omega arith)) most
          | inr right ↦ over (node_from_leaf width nodes some tree.lesser limit height (2 * node) half before refl is.first is.left_last right lt most)
        ];
      }

  -- the left one below a node, where it is at most the limit
  pub descend_left : (node : ℕ) → node < width → IsDescent width nodes top limit node → IsAtMost limit (node_at nodes (node * 2)) → IsDescent width nodes top limit (node * 2)
  descend_left node inner descent most =
      let twice : 2 * node ≡ node * 2 = omega arith in
      record {
        positive = omega (arith, descent.positive);
        there = most;
        down = λ span over. subst (IsDown width nodes top span limit) twice (left_down node span (descent.down span over).over.height (descent.down span over) refl inner);
      }

  -- the right one below a node, where the left one is over the limit
  pub descend_right : (node : ℕ) → node < width → IsDescent width nodes top limit node → (IsAtMost limit (node_at nodes (node * 2)) → ⊥) → IsDescent width nodes top limit (node * 2 + 1)
  descend_right node inner descent none =
      let twice : 2 * node ≡ node * 2 = omega arith in
      let over_left : IsAtMost limit (node_at nodes (2 * node)) → ⊥ = subst (λ (n : ℕ). IsAtMost limit (node_at nodes n) → ⊥) (sym twice) none in
      let is : IsLesserAt nodes node = tree.lesser node descent.positive inner (λ e. omega (arith, descent.positive)) in
      record {
        positive = omega arith;
        there = elim (lesser_either (node_at nodes (2 * node)) (node_at nodes (2 * node + 1)) (node_at nodes node) limit is descent.there) [
          | inl left ↦ absurd (over_left left)
          | inr right ↦ subst (λ (n : ℕ). IsAtMost limit (node_at nodes (n + 1))) twice right
        ];
        down = λ span over. subst (λ (n : ℕ). IsDown width nodes top span limit (n + 1)) twice (right_down node span (descent.down span over).over.height (descent.down span over) refl inner over_left);
      }

  arrived_down : (node span height : ℕ) → (down : IsDown width nodes top span limit node) → down.over.height ≡ height → width ≤ node → IsAtMost limit (node_at nodes node)
      → IsFirstBelow nodes top span limit node
  arrived_down node span zero down e leaf most =
      let one : down.part ≡ 1 = down.over.is_span ∙ ap (λ (h : ℕ). 2 ^ h) e in
      let first : top * span ≤ node * 1 = subst (λ (s : ℕ). top * span ≤ node * s) one down.first in
      let last : (node + 1) * 1 ≤ (top + 1) * span = subst (λ (s : ℕ). (node + 1) * s ≤ (top + 1) * span) one down.last in
      record {
        there = most;
        first = omega arith;
        last = omega arith;
        none_before = λ before since lt. down.none_before before since (subst (λ (s : ℕ). before < node * s) (sym one) (omega arith));
      }
  arrived_down node span (suc height) down e leaf most =
      let half = 2 ^ height in
      let power : down.part ≡ 2 ^ suc height = down.over.is_span ∙ ap (λ (h : ℕ). 2 ^ h) e in
      let twice : down.part ≡ 2 * half = omega arith in
      let is : AreHalves width node half = halves width node down.part half twice some (pow_pos height) down.over.first down.over.last in
      absurd (omega (arith, is.inner))

  -- the leaf that the way ends at
  pub arrived : (node : ℕ) → width ≤ node → IsDescent width nodes top limit node → (span : ℕ) → IsOver width top span → IsFirstBelow nodes top span limit node
  arrived node leaf descent span over = arrived_down node span (descent.down span over).over.height (descent.down span over) refl leaf descent.there
