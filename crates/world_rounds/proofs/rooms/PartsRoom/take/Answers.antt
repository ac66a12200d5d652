use Rattle.std.proofs.Common.{◌≤◌, ◌<◌, length, refl, sym, ◌∙◌, subst, arith}
use Rattle.world_rounds.proofs.Apart.{taking_full, taking_next, taking_none}
use Rattle.world_rounds.proofs.rooms.PartsRoom.take.Goals as goal
use Rattle.world_rounds.proofs.rooms.PartsRoom.take.Goals.{else-len-lt-MOST_MEMBERS-via-then-len-lt-MOST_MEMBERS+else-len-lt-MOST_MEMBERS-2, else-len-lt-MOST_MEMBERS-via-else-len-lt-MOST_MEMBERS}

pub members-init : goal.members-init
members-init g c =
    (taking_none c.args.members.now.items c.args.self.nodes.items c.args.self.mails.items c.args.self.no_nodes c.args.self.no_mails, c.args.self.nodes_fit, c.args.self.mails_fit, refl)

pub members-preserved-then-len-lt-MOST_MEMBERS-2 : goal.members-preserved-then-len-lt-MOST_MEMBERS-2
members-preserved-then-len-lt-MOST_MEMBERS-2 g c =
    let some : 0 < length c.members.members.items = omega (arith, c.remove-member.ensures.len, c.members.members.ok.0) in (
      taking_next c.args.members.now.items c.members.members.items c.remove-member.new.self.items c.members.nodes.items c.members.mails.items c.remove-member.result c.members.invariant.0 some
          c.remove-member.ensures.value c.remove-member.ensures.items c.push_reserved.new.self.items c.push_reserved-then-len-lt-MOST_MEMBERS-2.new.self.items c.push_reserved.ensures.items
          c.push_reserved-then-len-lt-MOST_MEMBERS-2.ensures.items,
      subst (λ n. 7 ≤ n) (sym c.push_reserved.ensures.capacity) c.members.invariant.1,
      subst (λ n. 7 ≤ n) (sym c.push_reserved-then-len-lt-MOST_MEMBERS-2.ensures.capacity) c.members.invariant.2,
      c.remove-member.ensures.capacity ∙ c.members.invariant.3,
    )

pub members-preserved : goal.members-preserved
members-preserved g c =
    let some : 0 < length c.members.members.items = omega (arith, c.remove-member.ensures.len, c.members.members.ok.0) in (
      taking_full c.args.members.now.items c.members.members.items c.remove-member.new.self.items c.members.nodes.items c.members.mails.items c.remove-member.result c.members.invariant.0 some
          c.remove-member.ensures.value c.remove-member.ensures.items
          (λ few nodes mails. elim c.else-len-lt-MOST_MEMBERS.branch [
            | else-len-lt-MOST_MEMBERS-via-then-len-lt-MOST_MEMBERS+else-len-lt-MOST_MEMBERS-2 w ↦
                omega (arith, w.if-len-lt-MOST_MEMBERS-2.false, w.len-then-len-lt-MOST_MEMBERS.ensures, c.members.mails.ok.0, mails)
            | else-len-lt-MOST_MEMBERS-via-else-len-lt-MOST_MEMBERS w ↦ omega (arith, w.if-len-lt-MOST_MEMBERS.false, c.len.ensures, c.members.nodes.ok.0, nodes)
          ]),
      c.members.invariant.1,
      c.members.invariant.2,
      c.remove-member.ensures.capacity ∙ c.members.invariant.3,
    )
