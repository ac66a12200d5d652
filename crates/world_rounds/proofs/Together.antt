-- A world that is put together.
use Rattle.std.proofs.Common.{◌≡◌, ◌⊎◌, map, ℕ, zero, suc, ◌<◌, true, false, List, [], ◌∷◌, ◌++◌, length, Some, refl, sym, ap, ◌∙◌, subst, inl, inr, arith, append_assoc, append-nil}
use Rattle.std.specs.List.{remove, slice_get}
use Rattle.std.specs.Prelude.{slice_index_or}
use Rattle.std.proofs.lemmas.List.{length-map, map-append}
use Rattle.std.proofs.lemmas.Option.{slice_get_within}
use Rattle.disk_model.specs.View.{DiskView}
use Rattle.due_set.specs.Table.{Table}
use Rattle.step_spec.specs.State.{Identity, started}
use Rattle.agreement.specs.Transition.{identity_of}
use Rattle.history.specs.Book.{Row}
use Rattle.replica_node.specs.Node.{replica_of}
use Rattle.replica_node.specs.declared.node.Node.{Node}
use Rattle.script_semantics.specs.Situation.{Situation, is_cut}
use Rattle.world_law.specs.Book.{BookState, StandsBehind, standing_behind}
use Rattle.world_steps.proofs.Stopped.{stands_stopped}
use Rattle.world_steps.specs.Nodes.{IsNodeOf, bases_behind}
use Rattle.world_steps.specs.Parts.{ArePartsAt, IsBookAt}
use Rattle.world_steps.specs.declared.bundle.Bundle.{Bundle}
use Rattle.world_steps.specs.declared.mail.MemberMail.{MemberMail}
use Rattle.world_steps.specs.Steps.{IsNodeAhead, IsNodeStopped}
use Rattle.world_rounds.specs.Nodes.{AreNodesAndMails, mails_of, nodes_of}
use Rattle.world_rounds.specs.World.{IsMemberAhead, IsWorldAt}
use Rattle.world_rounds.specs.declared.member.Member.{Member}
use Rattle.world_rounds.specs.declared.rooms.MemberRoom.{MemberRoom}
use Rattle.world_rounds.specs.declared.world.World.{World}
use Rattle.step_spec.proofs.ListLemmas.{mapped_at, first_left}

-- the members so far are of the nodes and mails in front, and these are left
pub record Joining {D : Type 0} (nodes : List (Node D)) (mails : List MemberMail) (members : List (Member D)) (more : List (Node D)) (rest : List MemberMail) : Type 0 where
  pub nodes_are : nodes ≡ nodes_of members ++ more
  pub mails_are : mails ≡ mails_of members ++ rest
  pub same : length rest ≡ length more
  pub idle : (who : ℕ) (member : Member D) → slice_get members who ≡ Some member → member.steps.items ≡ []

pub joining_none : {D : Type 0} (nodes : List (Node D)) (mails : List MemberMail) (members : List (Member D)) → length mails ≡ length nodes → members ≡ [] → Joining nodes mails members nodes mails
joining_none {D = D} nodes mails members same none =
    subst (λ (members : List (Member D)). Joining nodes mails members nodes mails) (sym none) (record { nodes_are = refl; mails_are = refl; same = same; idle = λ who member found. absurd cc })

moved : {X Y : Type 0} (of : X → Y) (xs : List X) (x : X) (ys : List Y) (all left : List Y) → all ≡ map of xs ++ left → left ≡ of x ∷ ys → all ≡ map of (xs ++ x ∷ []) ++ ys
moved of xs x ys all left parts is =
    parts ∙ ap (λ left. map of xs ++ left) is ∙ sym (append_assoc (map of xs) (of x ∷ []) ys) ∙ ap (λ front. front ++ ys) (sym (map-append of xs (x ∷ [])))

last_found : {X : Type 0} (xs : List X) (y : X) (k : ℕ) (x : X) → slice_get (xs ++ y ∷ []) k ≡ Some x → (slice_get xs k ≡ Some x) ⊎ (x ≡ y)
last_found [] y zero x is = inr cc
last_found [] y (suc k) x is = absurd cc
last_found (z ∷ xs) y zero x is = inl is
last_found (z ∷ xs) y (suc k) x is = last_found xs y k x is

pub joining_next : {D : Type 0} (nodes : List (Node D)) (mails : List MemberMail) (members after : List (Member D)) (more left : List (Node D)) (rest others : List MemberMail) (member : Member D)
    → Joining nodes mails members more rest → 0 < length more → member.node ≡ slice_index_or more 0 member.node → member.mail ≡ slice_index_or rest 0 member.mail
    → left ≡ remove more 0 → others ≡ remove rest 0 → member.steps.items ≡ [] → after ≡ members ++ member ∷ [] → Joining nodes mails after left others
joining_next {D = D} nodes mails members after more left rest others member so_far some node mail left_is others_are none is = subst (λ (after : List (Member D)). Joining nodes mails after left others) (sym is) (record {
  nodes_are = moved (λ (m : Member D). m.node) members member left nodes more so_far.nodes_are first_node;
  mails_are = moved (λ (m : Member D). m.mail) members member others mails rest so_far.mails_are first_mail;
  same = let one = ap length first_node in let two = ap length first_mail in let same = so_far.same in omega (arith, one, two, same);
  idle = λ who x found. elim (last_found members member who x found) [ inl old ↦ so_far.idle who x old | inr new ↦ ap (λ (m : Member D). m.steps.items) new ∙ none ];
})
  where
    first_node : more ≡ member.node ∷ left
    first_node = first_left more member.node some node ∙ ap (λ left. member.node ∷ left) (sym left_is)

    first_mail : rest ≡ member.mail ∷ others
    first_mail = let same = so_far.same in first_left rest member.mail (omega (arith, some, same)) mail ∙ ap (λ others. member.mail ∷ others) (sym others_are)

pub joined : {D : Type 0} (nodes : List (Node D)) (mails : List MemberMail) (members : List (Member D)) (more : List (Node D)) (rest : List MemberMail) → Joining nodes mails members more rest
    → length more ≡ 0 → AreNodesAndMails members nodes mails
joined nodes mails members [] [] so_far none = record { nodes_are = so_far.nodes_are ∙ append-nil (nodes_of members); mails_are = so_far.mails_are ∙ append-nil (mails_of members) }
joined nodes mails members [] (mail ∷ rest) so_far none = absurd (let same = so_far.same in omega (arith, same))
joined nodes mails members (node ∷ more) rest so_far none = absurd (omega (arith, none))

module _ {D : Type 0} (view : DiskView D) (table : Table) where
  running : (rows : List Row) (book : BookState) (who : ℕ) (node : Node D) → who < book.members → (standing_behind table rows book).runs who ≡ true
      → IsNodeOf view table rows book who node → IsNodeAhead view table rows book who [] node
  running rows book who node member runs is = record {
    at_rest = is.at_rest;
    trusted = is.trusted;
    disk = is.disk;
    first = replica_of node;
    stands = record {
      identity = is.identity ∙ ap (identity_of book.members) (sym me);
      member = rw me member;
      runs = rw me runs;
      state = is.state runs ∙ ap (standing_behind table rows book).replicas (sym me);
      of_table = is.at_rest.of_table;
    };
    me = me;
    took = refl;
  }
    where
      me : (replica_of node).identity.me ≡ who
      me = ap (λ (self : Identity). self.me) is.identity

  ended : (rows : List Row) (book : BookState) (who : ℕ) (node : Node D) → StandsBehind table rows book → who < book.members → (standing_behind table rows book).runs who ≡ false
      → IsNodeOf view table rows book who node
      → IsNodeStopped view table book.members (standing_behind table rows book) (bases_behind table rows book who) who [] node
  ended rows book who node behind member stopped is = record {
    at_rest = is.at_rest;
    trusted = is.trusted;
    disk = is.disk;
    identity = is.identity;
    none = refl;
    kept = (stands_stopped table rows book who behind member stopped).state ∙ ap (started who) (sym is.kept);
  }

  pub world_at : (rows : List Row) (parts : Bundle (Node D) (MemberRoom D)) (situation : Situation) (world : World D) → ArePartsAt view table rows parts situation
      → world.book ≡ parts.book → AreNodesAndMails world.members.items parts.nodes.items parts.mail.members.items
      → ((who : ℕ) (member : Member D) → slice_get world.members.items who ≡ Some member → member.steps.items ≡ []) → world.cuts ≡ parts.mail.cuts → world.latest ≡ parts.mail.latest
      → IsWorldAt view table rows world situation
  world_at rows parts situation world are book replicas idle cuts latest = record {
    ahead = record {
      at = subst (λ (b : BookState). IsBookAt table rows b situation) (sym book) are.at;
      count = count ∙ ap (λ (b : BookState). b.members) (sym book);
      each = λ who member found.
          subst (λ (b : BookState). IsMemberAhead view table rows b situation who [] member) (sym book) (each who member found);
      cuts = λ from to. ap (λ cuts. is_cut from to cuts.items) cuts ∙ are.cuts from to;
      latest = ap (λ minute. minute.0) latest ∙ are.latest;
    };
    idle = idle;
  }
    where
      count : length world.members.items ≡ parts.book.members
      count = sym (length-map world.members.items (λ member. member.node)) ∙ ap length (sym replicas.nodes_are) ∙ are.nodes.count

      each : (who : ℕ) (member : Member D) → slice_get world.members.items who ≡ Some member → IsMemberAhead view table rows parts.book situation who [] member
      each who member found =
          let within : who < length world.members.items = slice_get_within world.members.items who member found in
          let below : who < parts.book.members = subst (λ n. who < n) count within in
          let node = are.nodes.each who member.node (subst (λ nodes. slice_get nodes who ≡ Some member.node) (sym replicas.nodes_are) (mapped_at (λ (m : Member D). m.node) world.members.items who member found)) in
          record {
            mail = are.mails who member.mail (subst (λ mails. slice_get mails who ≡ Some member.mail) (sym replicas.mails_are) (mapped_at (λ (m : Member D). m.mail) world.members.items who member found));
            running = λ runs. running rows parts.book who member.node below runs node;
            stopped = λ stopped. ended rows parts.book who member.node are.at.behind below stopped node;
          }
