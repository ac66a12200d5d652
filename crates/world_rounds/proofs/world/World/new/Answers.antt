use Rattle.std.proofs.Common.{◌≡◌, length, sym, ap, ◌∙◌, subst}
use Rattle.std.specs.List.{Contains}
use Rattle.std.proofs.lemmas.List.{length_push}
use Rattle.std.proofs.lemmas.List.Elements.{Contains-get_or}
use Rattle.std.proofs.lemmas.Iterator.Adapters.{YieldsList-from_vec}
use Rattle.std.proofs.lemmas.Iterator.Consumers.{YieldsList-turn, YieldsList-end}
use Rattle.world_rounds.specs.Start.{IsFreshMember}
use Rattle.world_rounds.proofs.Starting.{HaveStarted, started_next, world_starts}
use Rattle.world_rounds.proofs.world.World.new.Goals as goal

pub start_member-requires-clause-fresh : goal.start_member-requires-clause-fresh
start_member-requires-clause-fresh g c =
    let gives = c.into_iter-disk-iterator.ensures.into_iter_gives in
    let road = YieldsList-from_vec {s = c.into_iter-disk-iterator.result} c.args.disks.items gives.0 (gives.1 ∙ c.args.disks.ok.0) in
    let t = YieldsList-turn road c.disks.yielded c.disks.disk-iterator c.disks.yielded_by c.next.result c.next.new.self c.in-Some.disk c.in-Some.is c.next.ensures.steps in
    c.requires.fresh c.in-Some.disk (subst (λ disk. Contains c.args.disks.items disk) (sym t.1) (Contains-get_or c.args.disks.items (length c.disks.yielded) c.in-Some.disk t.0))

pub disks-preserved : goal.disks-preserved
disks-preserved g c =
    let me : c.len-me.result ≡ length c.disks.yielded = c.len-me.ensures ∙ c.disks.started.ok.0 ∙ c.disks.invariant.length_is in
    subst (λ n. HaveStarted g.D.Disk.view c.args.table.now c.args.members n c.push.new.self.items) (sym (length_push c.disks.yielded c.in-Some.disk))
    (started_next g.D.Disk.view c.args.table.now c.args.members (length c.disks.yielded) c.disks.started.items c.push.new.self.items c.in_ok-member.member
    c.disks.invariant
    (subst (λ who. IsFreshMember g.D.Disk.view c.args.table.now c.args.members who c.in_ok-member.member) me c.in_ok-member.ensures) c.in_ok-push.ensures.items)

pub returns-clause-starts : goal.returns-clause-starts
returns-clause-starts g c =
    let gives = c.into_iter-disk-iterator.ensures.into_iter_gives in
    let road = YieldsList-from_vec {s = c.into_iter-disk-iterator.result} c.args.disks.items gives.0 (gives.1 ∙ c.args.disks.ok.0) in
    let t = YieldsList-end road c.disks.yielded c.disks.disk-iterator c.disks.yielded_by c.next.result c.next.new.self c.in-None.is c.next.ensures.steps in
    world_starts g.D.Disk.view c.args.table.now c.args.members _ c.window-window.ensures.sound c.requires.few (c.new-book.ensures.stands c.args.table.now)
    c.new-book.ensures.pending c.new-book.ensures.members (c.disks.invariant.length_is ∙ t.1 ∙ c.requires.count) c.disks.invariant.each c.new-cuts.ensures.items
    (ap (λ window. window.from) c.window-window.ensures.window)

pub returns-clause-members : goal.returns-clause-members
returns-clause-members g c = c.new-book.ensures.members
