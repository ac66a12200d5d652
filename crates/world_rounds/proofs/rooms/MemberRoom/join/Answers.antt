use Rattle.std.proofs.Common.{rules, ◌≡◌, ◌<◌, false, length, refl, ap, ◌∙◌, arith}
use Rattle.world_rounds.proofs.Together.{joined, joining_next, joining_none}
use Rattle.world_rounds.proofs.rooms.MemberRoom.join.Goals as goal

pub nodes-init : goal.nodes-init
nodes-init g c = (
  joining_none c.args.nodes.now.items c.args.mails.now.items c.args.self.members.items c.requires.count c.args.self.empty,
  omega (arith, c.requires.room, ap length c.args.self.empty),
  refl,
  refl,
)

pub nodes-preserved : goal.nodes-preserved
nodes-preserved g c =
    let some : 0 < length c.nodes.nodes.items = omega (arith, c.remove-node.ensures.len, c.nodes.nodes.ok.0) in (
      joining_next c.args.nodes.now.items c.args.mails.now.items c.nodes.members.items c.push_reserved.new.self.items c.nodes.nodes.items c.remove-node.new.self.items c.nodes.mails.items
          c.remove-mail.new.self.items (record { node = c.remove-node.result; mail = c.remove-mail.result; steps = c.new.result; short = false }) c.nodes.invariant.0 some c.remove-node.ensures.value
          c.remove-mail.ensures.value c.remove-node.ensures.items c.remove-mail.ensures.items c.new.ensures.items c.push_reserved.ensures.items,
      omega (arith, c.push_reserved.ensures.len, c.push_reserved.ensures.capacity, c.push_reserved.new.self.ok.0, c.nodes.members.ok.0, c.remove-node.ensures.len, c.remove-node.new.self.ok.0, c.nodes.nodes.ok.0, c.nodes.invariant.1),
      c.remove-node.ensures.capacity ∙ c.nodes.invariant.2,
      c.remove-mail.ensures.capacity ∙ c.nodes.invariant.3,
    )

pub returns-clause-parts : goal.returns-clause-parts
returns-clause-parts g c =
    let none : length c.nodes.nodes.items ≡ 0 = search rules in
    joined c.args.nodes.now.items c.args.mails.now.items c.nodes.members.items c.nodes.nodes.items c.nodes.mails.items c.nodes.invariant.0 none

pub returns-clause-idle : goal.returns-clause-idle
returns-clause-idle g c = c.nodes.invariant.0.idle
