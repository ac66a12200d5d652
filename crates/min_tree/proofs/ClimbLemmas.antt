-- The way from a leaf to the right and up, to the first node that is at most a limit.
use Rattle.std.proofs.Common.{◌≡◌, ℕ, zero, suc, ◌+◌, ◌-◌, ◌*◌, ◌^◌, ◌<◌, ◌≤◌, inl, inr, List, length, drop, Option, ℤ, refl, sym, ap, ◌∙◌, subst, arith}
use Rattle.std.proofs.Math.Nat.{lt_of_mul-lt-mul_right, mul-le-mul_right}
use Rattle.std.proofs.lemmas.Bool.{cases_lt}
use Rattle.min_tree.specs.Least.{IsAtMost, IsFirstAtMost, HasNoneAtMost}
use Rattle.min_tree.specs.Nodes.{IsTree, IsOver, IsFirstBelow, node_at}
use Rattle.min_tree.proofs.LeafLemmas.{is_within, leaf_of_value, leaf_within, value_of_leaf}
use Rattle.min_tree.proofs.NodeLemmas.{node_from_leaf, some_width}

-- a node over the leaves from a start on; the leaves before, from one on, are over the limit
pub record IsClimb (width : ℕ) (nodes : List (Option ℤ)) (from : ℕ) (limit : ℤ) (node span start : ℕ) : Type 0 where
  pub height : ℕ
  pub rest : ℕ
  pub is_span : span ≡ 2 ^ height
  pub whole : 2 ^ rest * span ≡ 2 * width
  pub here : node * span ≡ width + start
  pub since : from ≤ start
  pub none_before : (before : ℕ) → width + from ≤ before → before < width + start → IsAtMost limit (node_at nodes before) → ⊥

-- a leaf, and the first of the list there
pub record IsFoundLeaf (width : ℕ) (nodes : List (Option ℤ)) (from : ℕ) (limit : ℤ) (place : ℕ) : Type 0 where
  pub leaf : width ≤ place
  pub first : IsFirstAtMost (drop width nodes) from limit (place - width)

module _ (width : ℕ) (nodes : List (Option ℤ)) (from : ℕ) (limit : ℤ) (tree : IsTree width nodes) where
  some : 0 < width
  some = some_width width nodes tree

  -- a climb begins at a leaf
  pub climb_start : IsClimb width nodes from limit (width + from) 1 from
  climb_start = record {
    height = 0;
    rest = suc tree.depth;
    is_span = refl;
    whole = omega (arith, tree.is_width);
    here = omega arith;
    since = omega arith;
    none_before = λ before since lt most. absurd (omega arith);
  }

  pub climb_over : (node span start : ℕ) → IsClimb width nodes from limit node span start → start < length nodes - width → IsOver width node span
  climb_over node span start climb lt =
      let below : node * span < 2 ^ climb.rest * span = omega (arith, climb.here, climb.whole, tree.leaves) in
      let left : node < 2 ^ climb.rest = lt_of_mul-lt-mul_right span below in
      let last : (node + 1) * span ≤ 2 ^ climb.rest * span = mul-le-mul_right span (omega arith) in
      record { height = climb.height; is_span = climb.is_span; first = omega (arith, climb.here); last = omega (arith, climb.whole) }

  none_next : (node span start : ℕ) → IsClimb width nodes from limit node span start → start < length nodes - width → (IsAtMost limit (node_at nodes node) → ⊥)
      → (before : ℕ) → width + from ≤ before → before < width + (start + span) → IsAtMost limit (node_at nodes before) → ⊥
  none_next node span start climb lt none before since lt_next most =
      let over : IsOver width node span = climb_over node span start climb lt in
      elim (cases_lt before (width + start)) [
        | inl earlier ↦ climb.none_before before since earlier most
        | inr le ↦ none (node_from_leaf width nodes some tree.lesser limit climb.height node span before climb.is_span over.first over.last (omega (arith, climb.here)) (omega (arith, climb.here)) most)
      ]

  -- from a node over the limit to the right
  pub climb_right : (node span start : ℕ) → IsClimb width nodes from limit node span start → start < length nodes - width → (IsAtMost limit (node_at nodes node) → ⊥)
      → IsClimb width nodes from limit (node + 1) span (start + span)
  climb_right node span start climb lt none = record {
    height = climb.height;
    rest = climb.rest;
    is_span = climb.is_span;
    whole = climb.whole;
    here = omega (arith, climb.here);
    since = omega (arith, climb.since);
    none_before = none_next node span start climb lt none;
  }

  -- from a right node over the limit to the right of its parent
  pub climb_up : (node half span start : ℕ) → node ≡ 2 * half + 1 → IsClimb width nodes from limit node span start → start < length nodes - width
      → (IsAtMost limit (node_at nodes node) → ⊥) → IsClimb width nodes from limit (half + 1) (span * 2) (start + span)
  climb_up node half span start odd climb lt none = by climb.rest refl
    where
      by : (rest : ℕ) → climb.rest ≡ rest → IsClimb width nodes from limit (half + 1) (span * 2) (start + span)
      by zero e =
          let one : 1 * span ≡ 2 * width = subst (λ (r : ℕ). 2 ^ r * span ≡ 2 * width) e climb.whole in
          let over : IsOver width node span = climb_over node span start climb lt in
          let place : (2 * half + 1 + 1) * span ≤ 2 * width = subst (λ (n : ℕ). (n + 1) * span ≤ 2 * width) odd over.last in
          absurd (omega (arith, climb.here, some))
      by (suc rest) e =
          let twice : 2 ^ suc rest ≡ 2 * 2 ^ rest = omega arith in
          let whole : 2 * 2 ^ rest * span ≡ 2 * width = subst (λ (p : ℕ). p * span ≡ 2 * width) (ap (λ (r : ℕ). 2 ^ r) e ∙ twice) climb.whole in
          let here : (2 * half + 1) * span ≡ width + start = subst (λ (n : ℕ). n * span ≡ width + start) odd climb.here in
          record {
            height = suc climb.height;
            rest = rest;
            is_span = omega (arith, climb.is_span);
            whole = omega arith;
            here = omega arith;
            since = omega (arith, climb.since);
            none_before = none_next node span start climb lt none;
          }

  -- the first leaf below the node is the first of the list
  pub climb_found : (node span start leaf : ℕ) → IsClimb width nodes from limit node span start → IsFirstBelow nodes node span limit leaf
      → IsFoundLeaf width nodes from limit leaf
  climb_found node span start leaf climb is =
      let within : leaf < length nodes = is_within nodes leaf limit is.there in
      let le : width + start ≤ leaf = omega (arith, climb.here, is.first) in
      record {
        leaf = omega arith;
        first = record {
          value = node_at nodes leaf;
          here = value_of_leaf width nodes leaf (omega arith) within;
          there = is.there;
          since = omega (arith, climb.since);
          none_before = λ before earlier since lt there most.
              let at_leaf : IsAtMost limit (node_at nodes (width + before)) = subst (IsAtMost limit) (sym (leaf_of_value width nodes before earlier there)) most in
              elim (cases_lt (width + before) (width + start)) [
                | inl early ↦ climb.none_before (width + before) (omega arith) early at_leaf
                | inr late ↦ is.none_before (width + before) (omega (arith, climb.here)) (omega arith) at_leaf
              ];
        };
      }

  -- past the last leaf there is none
  pub climb_none : (node span start : ℕ) → IsClimb width nodes from limit node span start → length nodes - width ≤ start → HasNoneAtMost (drop width nodes) from limit
  climb_none node span start climb le place value since here most =
      climb.none_before (width + place) (omega arith) (omega (arith, leaf_within width nodes place value here))
      (subst (IsAtMost limit) (sym (leaf_of_value width nodes place value here)) most)
