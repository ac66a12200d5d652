use Rattle.std.proofs.Common.{length, arith, ap}
use Rattle.world_rounds.proofs.Delivery.{delivered_all, delivered_next, delivered_none, still_world}
use Rattle.world_rounds.proofs.world.World.deliver.Goals as goal

pub numbers-init : goal.numbers-init
numbers-init g c = delivered_none g.D.Disk.view c.args.first c.args.self.now

pub deliver_one-requires-clause-world : goal.deliver_one-requires-clause-world
deliver_one-requires-clause-world g c = (
  c.requires.world.0,
  still_world g.D.Disk.view c.args.first c.numbers.number c.requires.world.0 c.args.self.now c.numbers.self c.numbers.auto.number c.numbers.invariant c.requires.world.1,
)

pub numbers-preserved : goal.numbers-preserved
numbers-preserved g c =
    delivered_next g.D.Disk.view c.args.first c.numbers.number c.args.self.now c.numbers.self c.deliver_one.new.self c.numbers.auto.number
    (let posted = ap length c.letters.ensures in omega (arith, posted, c.numbers-test.true)) c.numbers.invariant
    c.in_ok-deliver_one.ensures.arrives c.in_ok-deliver_one.ensures.book

pub returns-clause-delivers : goal.returns-clause-delivers
returns-clause-delivers g c =
    delivered_all g.D.Disk.view c.args.first c.numbers.number c.args.self.now c.numbers.self
    (let posted = ap length c.letters.ensures in omega (arith, posted, c.numbers-test.false)) c.numbers.invariant c.numbers.auto.number
