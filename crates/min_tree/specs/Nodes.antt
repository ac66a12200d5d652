-- The nodes of a tournament tree: node k is the lesser of nodes 2k and 2k+1, and the leaves begin at the width.
-- Private functions alone cite it.
use Rattle.std.specs.Prelude.{◌≡◌, ◌≢◌, ◌⊎◌, ℕ, ◌+◌, ◌*◌, ◌^◌, ◌<◌, ◌≤◌, List, length, get_or, Option, None, Some, ℤ, ◌≤ℤ◌}
use Rattle.min_tree.specs.Least.{IsAtMost}

-- the instant is one of two, and none of them is before it; there is none where neither is there
abbrev pub IsLesser : Option ℤ → Option ℤ → Option ℤ → Type 0
IsLesser a b None = (a ≡ None) × (b ≡ None)
IsLesser a b (Some at) =
    ((a ≡ Some at) ⊎ (b ≡ Some at)) × ((later : ℤ) → a ≡ Some later → at ≤ℤ later) × ((later : ℤ) → b ≡ Some later → at ≤ℤ later)

-- the value of a node; there is none past the end
abbrev pub node_at : List (Option ℤ) → ℕ → Option ℤ
node_at nodes place = get_or nodes place None

-- a node is the lesser of the two below it
abbrev pub IsLesserAt : List (Option ℤ) → ℕ → Type 0
IsLesserAt nodes place = IsLesser (node_at nodes (2 * place)) (node_at nodes (2 * place + 1)) (node_at nodes place)

-- each inner node but one is the lesser of the two below it; node 0 is none of them
abbrev pub AreLesserBut : ℕ → List (Option ℤ) → ℕ → Type 0
AreLesserBut width nodes but = (place : ℕ) → 0 < place → place < width → place ≢ but → IsLesserAt nodes place

-- the nodes are a tournament tree over the leaves
pub record IsTree (width : ℕ) (nodes : List (Option ℤ)) : Type 0 where
  pub depth : ℕ
  pub is_width : width ≡ 2 ^ depth
  pub inner : width ≤ length nodes
  pub leaves : length nodes ≤ 2 * width
  pub lesser : AreLesserBut width nodes 0

-- a node stands over so many leaves, from that many times its number on
pub record IsOver (width node span : ℕ) : Type 0 where
  pub height : ℕ
  pub is_span : span ≡ 2 ^ height
  pub first : width ≤ node * span
  pub last : (node + 1) * span ≤ 2 * width

-- the first leaf below a node whose instant is at most the limit
pub record IsFirstBelow (nodes : List (Option ℤ)) (node span : ℕ) (limit : ℤ) (leaf : ℕ) : Type 0 where
  pub there : IsAtMost limit (node_at nodes leaf)
  pub first : node * span ≤ leaf
  pub last : leaf < (node + 1) * span
  pub none_before : (before : ℕ) → node * span ≤ before → before < leaf → IsAtMost limit (node_at nodes before) → ⊥

-- a power of two that is enough for so many leaves, and less than twice as many where there are any
pub record IsWidthFor (count width : ℕ) : Type 0 where
  pub depth : ℕ
  pub is_width : width ≡ 2 ^ depth
  pub enough : count ≤ width
  pub tight : width ≤ 2 * count + 1
