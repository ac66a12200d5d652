-- The leaves of a tournament tree, as a list.
use Rattle.std.proofs.Common.{◌≡◌, ℕ, ◌+◌, ◌-◌, ◌<◌, ◌≤◌, inl, inr, List, length, drop, Option, None, Some, ℤ, ◌≤ℤ◌, refl, sym, ap, ◌∙◌, subst, arith}
use Rattle.std.specs.Prelude.{slice_get, IfSome, IfNone}
use Rattle.std.proofs.lemmas.Bool.{cases_lt}
use Rattle.std.proofs.lemmas.Int.{ints}
use Rattle.std.proofs.lemmas.List.{get_or-drop, get_or_past, length-drop}
use Rattle.std.proofs.lemmas.Option.{get_or_from_slice_get, slice_get-get_or, slice_get_within}
use Rattle.min_tree.specs.Least.{IsAtMost, IsLeast, HasNone}
use Rattle.min_tree.specs.Nodes.{IsTree, node_at}
use Rattle.min_tree.proofs.NodeLemmas.{node_from_leaf, leaf_from_node, some_width}

-- what is at most a limit is there
pub is_within : (nodes : List (Option ℤ)) (place : ℕ) (limit : ℤ) → IsAtMost limit (node_at nodes place) → place < length nodes
is_within nodes place limit most = elim (cases_lt place (length nodes)) [
  | inl lt ↦ lt
  | inr le ↦ absurd (subst (IsAtMost limit) (get_or_past nodes place None le) most)
]

-- the value of a leaf's place
pub leaf_of_value : (width : ℕ) (nodes : List (Option ℤ)) (place : ℕ) (value : Option ℤ) → slice_get (drop width nodes) place ≡ Some value → node_at nodes (width + place) ≡ value
leaf_of_value width nodes place value e = sym (get_or-drop width nodes place None) ∙ get_or_from_slice_get (drop width nodes) place value None e

pub leaf_within : (width : ℕ) (nodes : List (Option ℤ)) (place : ℕ) (value : Option ℤ) → slice_get (drop width nodes) place ≡ Some value → width + place < length nodes
leaf_within width nodes place value e = omega (arith, slice_get_within (drop width nodes) place value e, length-drop width nodes)

pub value_of_leaf : (width : ℕ) (nodes : List (Option ℤ)) (leaf : ℕ) → width ≤ leaf → leaf < length nodes → slice_get (drop width nodes) (leaf - width) ≡ Some (node_at nodes leaf)
value_of_leaf width nodes leaf le lt =
    let place : width + (leaf - width) ≡ leaf = omega arith in
    slice_get-get_or (drop width nodes) (leaf - width) None (omega (arith, length-drop width nodes))
    ∙ ap Some (get_or-drop width nodes (leaf - width) None ∙ ap (node_at nodes) place)

module _ (width : ℕ) (nodes : List (Option ℤ)) (tree : IsTree width nodes) where
  some : 0 < width
  some = some_width width nodes tree

  root_from_leaf : (limit : ℤ) (place : ℕ) (value : Option ℤ) → slice_get (drop width nodes) place ≡ Some value → IsAtMost limit value → IsAtMost limit (node_at nodes 1)
  root_from_leaf limit place value here most =
      node_from_leaf width nodes some tree.lesser limit tree.depth 1 width (width + place) tree.is_width (omega arith) (omega arith) (omega arith)
      (omega (arith, leaf_within width nodes place value here, tree.leaves)) (subst (IsAtMost limit) (sym (leaf_of_value width nodes place value here)) most)

  least_at : (at : ℤ) → node_at nodes 1 ≡ Some at → (leaf : ℕ) → width ≤ leaf → (value : Option ℤ) → node_at nodes leaf ≡ value → IsAtMost at value
      → IsLeast (drop width nodes) at
  least_at at root leaf le None e most = absurd most
  least_at at root leaf le (Some value) e most =
      let within : leaf < length nodes = is_within nodes leaf at (subst (IsAtMost at) (sym e) most) in
      let here : slice_get (drop width nodes) (leaf - width) ≡ Some (Some value) = value_of_leaf width nodes leaf le within ∙ ap Some e in
      let lower : at ≤ℤ value = first (leaf - width) value here in
      let same : value ≡ at = omega (arith, ints) in
      record { place = leaf - width; here = here ∙ ap (λ (v : ℤ). Some (Some v)) same; least = first }
    where
      first : (other : ℕ) (later : ℤ) → slice_get (drop width nodes) other ≡ Some (Some later) → at ≤ℤ later
      first other later there =
          subst (IsAtMost later) root (root_from_leaf later other (Some later) there (omega (arith, ints)))

  -- the root is the least value
  pub root_is_least : (root : Option ℤ) → node_at nodes 1 ≡ root → IfSome root (IsLeast (drop width nodes))
  root_is_least None e = tt
  root_is_least (Some at) e =
      let found = leaf_from_node width nodes some tree.lesser at tree.depth 1 width tree.is_width (omega arith) (omega arith) (subst (IsAtMost at) (sym e) (omega (arith, ints))) in
      least_at at e found.0 (omega (arith, found.1)) (node_at nodes found.0) refl found.3

  -- where the root is none, there is no value
  pub root_is_none : (root : Option ℤ) → node_at nodes 1 ≡ root → IfNone root (HasNone (drop width nodes))
  root_is_none None e = λ place at here. subst (IsAtMost at) e (root_from_leaf at place (Some at) here (omega (arith, ints)))
  root_is_none (Some at) e = tt
