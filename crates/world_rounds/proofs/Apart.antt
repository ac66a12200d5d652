-- A world that is taken apart.
use Rattle.std.proofs.Common.{◌≡◌, ℕ, zero, suc, ◌<◌, ◌≤◌, List, [], ◌∷◌, ◌++◌, length, Some, refl, sym, ap, ◌∙◌, subst, arith, append_assoc, append-nil, length-append}
use Rattle.std.proofs.lemmas.Option.{same_Some}
use Rattle.std.specs.List.{remove, slice_get}
use Rattle.std.specs.Prelude.{slice_index_or}
use Rattle.std.proofs.lemmas.List.{length-map, map-append}
use Rattle.disk_model.specs.View.{DiskView}
use Rattle.due_set.specs.Table.{Table}
use Rattle.history.specs.Book.{Row}
use Rattle.replica_node.specs.declared.node.Node.{Node}
use Rattle.script_semantics.specs.Situation.{Situation, is_cut}
use Rattle.world_law.specs.Book.{BookState}
use Rattle.world_steps.specs.Nodes.{AreNodesOf}
use Rattle.world_steps.specs.Parts.{ArePartsAt, IsBookAt, IsMailOf}
use Rattle.world_steps.specs.declared.bundle.Bundle.{Bundle}
use Rattle.world_steps.specs.declared.mail.MemberMail.{MemberMail}
use Rattle.world_rounds.proofs.Ended.{nodes_left}
use Rattle.world_rounds.specs.Nodes.{AreNodesAndMails, mails_of}
use Rattle.world_rounds.specs.World.{IsWorldAt}
use Rattle.world_rounds.specs.declared.member.Member.{Member}
use Rattle.world_rounds.specs.declared.rooms.MemberRoom.{MemberRoom}
use Rattle.world_rounds.specs.declared.world.World.{World}

-- some members in front are taken, and these are left
pub record Taking {D : Type 0} (all left : List (Member D)) (nodes : List (Node D)) (mails : List MemberMail) : Type 0 where
  pub taken : List (Member D)
  pub parts : all ≡ taken ++ left
  pub are : length all ≤ 7 → AreNodesAndMails taken nodes mails

pub taking_none : {D : Type 0} (all : List (Member D)) (nodes : List (Node D)) (mails : List MemberMail) → nodes ≡ [] → mails ≡ [] → Taking all all nodes mails
taking_none all nodes mails no_nodes no_mails = record { taken = []; parts = refl; are = λ few. record { nodes_are = no_nodes; mails_are = no_mails } }

first_left : {D : Type 0} (left : List (Member D)) (member : Member D) → 0 < length left → member ≡ slice_index_or left 0 member → left ≡ member ∷ remove left 0
first_left [] member some is = absurd (omega (arith, some))
first_left (first ∷ rest) member some is = ap (λ x. x ∷ rest) (sym is)

module _ {D : Type 0} (all left after : List (Member D)) (nodes : List (Node D)) (mails : List MemberMail) (member : Member D) (so_far : Taking all left nodes mails) (some : 0 < length left) (is : member ≡ slice_index_or left 0 member) (rest : after ≡ remove left 0) where
  taken_then : all ≡ (so_far.taken ++ member ∷ []) ++ after
  taken_then =
      so_far.parts ∙ ap (λ left. so_far.taken ++ left) (first_left left member some is) ∙ ap (λ left. so_far.taken ++ member ∷ left) (sym rest)
      ∙ sym (append_assoc so_far.taken (member ∷ []) after)

  pub taking_next : (new_nodes : List (Node D)) (new_mails : List MemberMail) → new_nodes ≡ nodes ++ member.node ∷ [] → new_mails ≡ mails ++ member.mail ∷ []
      → Taking all after new_nodes new_mails
  taking_next new_nodes new_mails nodes_are mails_are = record {
    taken = so_far.taken ++ member ∷ [];
    parts = taken_then;
    are = λ few. record {
      nodes_are = nodes_are ∙ ap (λ nodes. nodes ++ member.node ∷ []) (so_far.are few).nodes_are ∙ sym (map-append (λ (m : Member D). m.node) so_far.taken (member ∷ []));
      mails_are = mails_are ∙ ap (λ mails. mails ++ member.mail ∷ []) (so_far.are few).mails_are ∙ sym (map-append (λ (m : Member D). m.mail) so_far.taken (member ∷ []));
    };
  }

  pub taking_full : (length all ≤ 7 → length nodes < 7 → length mails < 7 → ⊥) → Taking all after nodes mails
  taking_full full = record {
    taken = so_far.taken ++ member ∷ [];
    parts = taken_then;
    are = λ few.
        let taken : length so_far.taken < 7 = omega (arith, few, some, ap length so_far.parts, length-append so_far.taken left) in
        let as_nodes : length nodes ≡ length so_far.taken = ap length (so_far.are few).nodes_are ∙ length-map so_far.taken (λ (m : Member D). m.node) in
        let as_mails : length mails ≡ length so_far.taken = ap length (so_far.are few).mails_are ∙ length-map so_far.taken (λ (m : Member D). m.mail) in
        absurd (full few (omega (arith, taken, as_nodes)) (omega (arith, taken, as_mails)));
  }

pub taken_all : {D : Type 0} (all left : List (Member D)) (nodes : List (Node D)) (mails : List MemberMail) → Taking all left nodes mails → length left ≡ 0 → length all ≤ 7 → AreNodesAndMails all nodes mails
taken_all {D = D} all [] nodes mails so_far none few =
    subst (λ (members : List (Member D)). AreNodesAndMails members nodes mails) (sym (so_far.parts ∙ append-nil so_far.taken)) (so_far.are few)
taken_all all (member ∷ left) nodes mails so_far none few = absurd (omega (arith, none))

found_mail : {D : Type 0} (members : List (Member D)) (who : ℕ) (mail : MemberMail) → slice_get (mails_of members) who ≡ Some mail
    → (member : Member D) × (slice_get members who ≡ Some member) × (member.mail ≡ mail)
found_mail [] who mail is = absurd cc
found_mail (member ∷ members) zero mail is = (member, refl, same_Some member.mail mail is)
found_mail (member ∷ members) (suc who) mail is = found_mail members who mail is

module _ {D : Type 0} (view : DiskView D) (table : Table) where
  pub parts_at : (rows : List Row) (world : World D) (situation : Situation) (parts : Bundle (Node D) (MemberRoom D)) → IsWorldAt view table rows world situation
      → parts.book ≡ world.book → AreNodesAndMails world.members.items parts.nodes.items parts.mail.members.items → parts.mail.cuts ≡ world.cuts → parts.mail.latest ≡ world.latest
      → ArePartsAt view table rows parts situation
  parts_at rows world situation parts is book replicas cuts latest = record {
    at = subst (λ (b : BookState). IsBookAt table rows b situation) (sym book) is.ahead.at;
    nodes =
        subst (λ (b : BookState). AreNodesOf view table rows b parts.nodes.items) (sym book)
        (nodes_left view table rows world situation parts.nodes.items is replicas.nodes_are);
    count = ap length replicas.mails_are ∙ length-map world.members.items (λ member. member.mail) ∙ is.ahead.count ∙ ap (λ (b : BookState). b.members) (sym book);
    mails = λ who mail found.
        let (member, there, mail_is) = found_mail world.members.items who mail (subst (λ mails. slice_get mails who ≡ Some mail) replicas.mails_are found) in
        subst (λ (b : BookState). IsMailOf b.letters situation who [] mail) (sym book)
        (subst (λ mail. IsMailOf world.book.letters situation who [] mail) mail_is (is.ahead.each who member there).mail);
    cuts = λ from to. ap (λ cuts. is_cut from to cuts.items) cuts ∙ is.ahead.cuts from to;
    latest = ap (λ minute. minute.0) latest ∙ is.ahead.latest;
  }
