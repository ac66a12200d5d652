use Rattle.std.proofs.Common.{◌≡◌, length, ap, subst, arith}
use Rattle.script_semantics.specs.Situation.{delivered}
use Rattle.world_rounds.proofs.InOrder.{passed_next, round_passed}
use Rattle.world_rounds.specs.Mails.{Changes}
use Rattle.world_rounds.proofs.world.World.round_one_by_one.Goals as goal

pub whos-preserved : goal.whos-preserved
whos-preserved g c =
    passed_next g.D.Disk.view c.args.table.now c.args.at.0 c.whos.who c.args.self.now c.whos.self c.round_of.new.self c.whos.invariant c.in_ok-round_of.ensures.passes c.in_ok-round_of.ensures.members

pub returns-clause-goes : goal.returns-clause-goes
returns-clause-goes g c =
    round_passed g.D.Disk.view c.args.table.now c.args.at.0 c.whos.who c.args.self.now c.whos.self c.deliver.new.self c.whos.invariant (let whole : c.whos.who ≡ c.args.self.now.book.members = omega (arith, c.args.self.now.members.ok.0, c.len-members.ensures, c.whos-test.false, c.whos.auto.who-end, c.requires.world.is.ahead.count, c.requires.world.is.ahead.at.few) in whole)
    (subst (λ n. Changes g.D.Disk.view (delivered n) c.whos.self c.deliver.new.self) (ap length c.letters.ensures) c.in_ok-deliver.ensures.delivers)
