-- The nodes of a world, when no more of it is wanted.
use Rattle.std.proofs.Common.{◌≡◌, ℕ, zero, suc, ◌≤◌, Bool, true, false, List, [], ◌∷◌, length, Some, refl, ap, ◌∙◌, subst, arith}
use Rattle.std.specs.List.{slice_get}
use Rattle.std.proofs.lemmas.List.{length-map}
use Rattle.std.proofs.lemmas.Option.{same_Some}
use Rattle.disk_model.specs.View.{DiskView}
use Rattle.due_set.specs.Table.{Table}
use Rattle.history.specs.Book.{Row}
use Rattle.replica_node.specs.declared.node.Node.{Node}
use Rattle.script_semantics.specs.Situation.{Situation}
use Rattle.world_law.specs.Book.{BookState, standing_behind}
use Rattle.world_steps.specs.Nodes.{AreNodesOf, IsNodeOf}
use Rattle.world_steps.proofs.Ended.{running_node, stopped_node}
use Rattle.world_rounds.specs.Nodes.{nodes_of}
use Rattle.world_rounds.specs.World.{IsMemberAhead, IsWorldAt}
use Rattle.world_rounds.specs.declared.member.Member.{Member}
use Rattle.world_rounds.specs.declared.world.World.{World}

found_node : {D : Type 0} (members : List (Member D)) (who : ℕ) (node : Node D) → slice_get (nodes_of members) who ≡ Some node
    → (member : Member D) × (slice_get members who ≡ Some member) × (member.node ≡ node)
found_node [] who node is = absurd cc
found_node (member ∷ members) zero node is = (member, refl, same_Some member.node node is)
found_node (member ∷ members) (suc who) node is = found_node members who node is

module _ {D : Type 0} (view : DiskView D) (table : Table) where
  node_of : (rows : List Row) (book : BookState) (situation : Situation) (who : ℕ) (member : Member D) (runs : Bool) → (standing_behind table rows book).runs who ≡ runs
      → IsMemberAhead view table rows book situation who [] member → IsNodeOf view table rows book who member.node
  node_of rows book situation who member true is ahead = running_node view table rows book who member.node (ahead.running is)
  node_of rows book situation who member false is ahead = stopped_node view table rows book who member.node is (ahead.stopped is)

  pub few_members : (rows : List Row) (world : World D) (situation : Situation) → IsWorldAt view table rows world situation → length world.members.items ≤ 7
  few_members rows world situation is =
      let few : world.book.members ≤ 7 = is.ahead.at.few in
      let count : length world.members.items ≡ world.book.members = is.ahead.count in
      omega (arith, few, count)

  pub nodes_left : (rows : List Row) (world : World D) (situation : Situation) (nodes : List (Node D)) → IsWorldAt view table rows world situation
      → nodes ≡ nodes_of world.members.items → AreNodesOf view table rows world.book nodes
  nodes_left rows world situation nodes is same = record {
    count = ap length same ∙ length-map world.members.items (λ member. member.node) ∙ is.ahead.count;
    each = λ who node found.
        let (member, there, node_is) = found_node world.members.items who node (subst (λ nodes. slice_get nodes who ≡ Some node) same found) in
        subst (λ node. IsNodeOf view table rows world.book who node) node_is
        (node_of rows world.book situation who member ((standing_behind table rows world.book).runs who) refl (is.ahead.each who member there));
  }
