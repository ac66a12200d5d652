-- What a node of a tournament tree says of the leaves below it.
use Rattle.std.proofs.Common.{◌≡◌, ℕ, zero, suc, ◌+◌, ◌*◌, ◌^◌, ◌<◌, ◌≤◌, inl, inr, List, length, Option, ℤ, refl, sym, subst, arith}
use Rattle.std.proofs.Math.Nat.{le-mul_of_pos_right}
use Rattle.std.proofs.lemmas.Bool.{cases_lt}
use Rattle.std.proofs.lemmas.Nat.{pow_pos}
use Rattle.min_tree.specs.Least.{IsAtMost}
use Rattle.min_tree.specs.Nodes.{AreLesserBut, IsLesserAt, IsTree, node_at}
use Rattle.min_tree.proofs.LesserLemmas.{lesser_left, lesser_right, lesser_either}

-- a width is a power of two, and so not 0
pub some_width : (width : ℕ) (nodes : List (Option ℤ)) → IsTree width nodes → 0 < width
some_width width nodes tree = omega (arith, tree.is_width, pow_pos tree.depth)

-- as many nodes are a tree again where each inner one is the lesser of the two below it
pub tree_again : (width : ℕ) (old new : List (Option ℤ)) → IsTree width old → length new ≡ length old → AreLesserBut width new 0 → IsTree width new
tree_again width old new tree len lesser = record {
  depth = tree.depth;
  is_width = tree.is_width;
  inner = omega (arith, tree.inner);
  leaves = omega (arith, tree.leaves);
  lesser = lesser;
}

-- an inner node, and the two below it, each over half as many leaves
pub record AreHalves (width node half : ℕ) : Type 0 where
  pub positive : 0 < node
  pub inner : node < width
  pub first : width ≤ 2 * node * half
  pub left_last : (2 * node + 1) * half ≤ 2 * width
  pub right_first : width ≤ (2 * node + 1) * half
  pub last : (2 * node + 1 + 1) * half ≤ 2 * width

pub halves : (width node span half : ℕ) → span ≡ 2 * half → 0 < width → 0 < half → width ≤ node * span → (node + 1) * span ≤ 2 * width → AreHalves width node half
halves width node span half e some positive first last = record {
  positive = positive_node node first;
  inner = let le : node ≤ node * half = le-mul_of_pos_right node positive in omega (arith, ends);
  first = omega (arith, begins);
  left_last = omega (arith, ends);
  right_first = omega (arith, begins);
  last = omega (arith, ends);
}
  where
    begins : width ≤ node * (2 * half)
    begins = subst (λ (s : ℕ). width ≤ node * s) e first

    ends : (node + 1) * (2 * half) ≤ 2 * width
    ends = subst (λ (s : ℕ). (node + 1) * s ≤ 2 * width) e last

    positive_node : (n : ℕ) → width ≤ n * span → 0 < n
    positive_node zero le = omega arith
    positive_node (suc n) le = omega arith

module _ (width : ℕ) (nodes : List (Option ℤ)) (some : 0 < width) (lesser : AreLesserBut width nodes 0) (limit : ℤ) where
  pub inner_lesser : (node half : ℕ) → AreHalves width node half → IsLesserAt nodes node
  inner_lesser node half is = lesser node is.positive is.inner (λ e. omega arith)

  -- where a leaf is at most the limit, so is each node over it
  pub node_from_leaf : (height node span leaf : ℕ) → span ≡ 2 ^ height → width ≤ node * span → (node + 1) * span ≤ 2 * width
      → node * span ≤ leaf → leaf < (node + 1) * span → IsAtMost limit (node_at nodes leaf) → IsAtMost limit (node_at nodes node)
  node_from_leaf zero node span leaf e first last since before most =
      let since_one : node * 1 ≤ leaf = subst (λ (s : ℕ). node * s ≤ leaf) e since in
      let before_one : leaf < (node + 1) * 1 = subst (λ (s : ℕ). leaf < (node + 1) * s) e before in
      let same : leaf ≡ node = omega arith in
      subst (λ (place : ℕ). IsAtMost limit (node_at nodes place)) same most
  node_from_leaf (suc height) node span leaf e first last since before most =
      let half = 2 ^ height in
      let twice : span ≡ 2 * half = omega arith in
      let is : AreHalves width node half = halves width node span half twice some (pow_pos height) first last in
      let since_half : node * (2 * half) ≤ leaf = subst (λ (s : ℕ). node * s ≤ leaf) twice since in
      let before_half : leaf < (node + 1) * (2 * half) = subst (λ (s : ℕ). leaf < (node + 1) * s) twice before in
      elim (cases_lt leaf ((2 * node + 1) * half)) [
        | inl lt ↦
            lesser_left (node_at nodes (2 * node)) (node_at nodes (2 * node + 1)) (node_at nodes node) limit (inner_lesser node half is)
            (node_from_leaf height (2 * node) half leaf refl is.first is.left_last (omega arith) lt most)
        | inr le ↦
            lesser_right (node_at nodes (2 * node)) (node_at nodes (2 * node + 1)) (node_at nodes node) limit (inner_lesser node half is)
            (node_from_leaf height (2 * node + 1) half leaf refl is.right_first is.last le (omega arith) most)
      ]

  -- where a node is at most the limit, so is a leaf below it
  pub leaf_from_node : (height node span : ℕ) → span ≡ 2 ^ height → width ≤ node * span → (node + 1) * span ≤ 2 * width → IsAtMost limit (node_at nodes node)
      → (leaf : ℕ) × (node * span ≤ leaf) × (leaf < (node + 1) * span) × IsAtMost limit (node_at nodes leaf)
  leaf_from_node zero node span e first last most =
      let from : node * span ≤ node = subst (λ (s : ℕ). node * s ≤ node) (sym e) (omega arith) in
      let until : node < (node + 1) * span = subst (λ (s : ℕ). node < (node + 1) * s) (sym e) (omega arith) in
      (node, from, until, most)
  leaf_from_node (suc height) node span e first last most =
      let half = 2 ^ height in
      let twice : span ≡ 2 * half = omega arith in
      let is : AreHalves width node half = halves width node span half twice some (pow_pos height) first last in
      elim (lesser_either (node_at nodes (2 * node)) (node_at nodes (2 * node + 1)) (node_at nodes node) limit (inner_lesser node half is) most) [
        | inl left ↦
            let below = leaf_from_node height (2 * node) half refl is.first is.left_last left in
            let from : node * span ≤ below.0 = subst (λ (s : ℕ). node * s ≤ below.0) (sym twice) (omega (arith, below.1)) in
            let until : below.0 < (node + 1) * span = subst (λ (s : ℕ). below.0 < (node + 1) * s) (sym twice) (omega (arith, below.2)) in
            (below.0, from, until, below.3)
        | inr right ↦
            let below = leaf_from_node height (2 * node + 1) half refl is.right_first is.last right in
            let from : node * span ≤ below.0 = subst (λ (s : ℕ). node * s ≤ below.0) (sym twice) (omega (arith, below.1)) in
            let until : below.0 < (node + 1) * span = subst (λ (s : ℕ). below.0 < (node + 1) * s) (sym twice) (omega (arith, below.2)) in
            (below.0, from, until, below.3)
      ]
