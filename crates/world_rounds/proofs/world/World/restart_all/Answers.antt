use Rattle.std.proofs.Common.{◌≡◌, length, arith, sym, ◌∙◌}
use Rattle.world_rounds.proofs.ClearLemmas.{restarted_all, restarted_next, restarted_none}
use Rattle.world_rounds.proofs.world.World.restart_all.Goals as goal

pub whos-init : goal.whos-init
whos-init g c = restarted_none g.D.Disk.view c.args.table.now c.args.self.now c.requires.world

pub restart-requires-clause-world : goal.restart-requires-clause-world
restart-requires-clause-world g c = c.whos.invariant.world

pub restart-requires-clause-member : goal.restart-requires-clause-member
restart-requires-clause-member g c =
    let count : c.len-members.result ≡ length c.whos.self.members.items =
    c.len-members.ensures ∙ c.args.self.now.members.ok.0 ∙ c.requires.world.is.ahead.count ∙ sym c.whos.invariant.members ∙ sym c.whos.invariant.world.is.ahead.count in
    omega (arith, c.whos-test.true, count)

pub whos-preserved : goal.whos-preserved
whos-preserved g c =
    restarted_next g.D.Disk.view c.args.table.now c.whos.who c.args.self.now c.whos.self c.restart.new.self c.whos.invariant
    c.in_ok-restart.ensures.goes c.in_ok-restart.ensures.members

pub returns-clause-goes : goal.returns-clause-goes
returns-clause-goes g c =
    let count : c.len-members.result ≡ length c.args.self.now.members.items = c.len-members.ensures ∙ c.args.self.now.members.ok.0 in
    let whole : c.whos.who ≡ length c.args.self.now.members.items = omega (arith, c.whos-test.false, c.whos.auto.who-end, count) in
    restarted_all g.D.Disk.view c.args.table.now c.whos.who c.args.self.now c.whos.self c.requires.world whole c.whos.invariant

pub returns-clause-members : goal.returns-clause-members
returns-clause-members g c = c.whos.invariant.members
