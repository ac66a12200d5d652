use Rattle.std.proofs.Common.{length, arith, ap}
use Rattle.world_law.specs.Book.{BookState}
use Rattle.run_replay.proofs.DeliverLemmas.{delivered_all, delivered_next, delivered_none, still_ready}
use Rattle.run_replay.proofs.replay.Replay.deliver.Goals as goal

pub numbers-init : goal.numbers-init
numbers-init c = delivered_none c.args.first c.args.self.now

pub deliver_one-requires-clause-ready : goal.deliver_one-requires-clause-ready
deliver_one-requires-clause-ready c = (
  c.requires.ready.0,
  still_ready c.args.first c.numbers.number c.requires.ready.0 c.args.self.now c.numbers.self c.numbers.auto.number c.numbers.invariant c.requires.ready.1,
)

pub deliver_one-requires-clause-there : goal.deliver_one-requires-clause-there
deliver_one-requires-clause-there c =
    let same = ap (λ (book : BookState). length book.letters) c.numbers.invariant.book in
    let posted = ap length c.letters.ensures in omega (arith, same, posted, c.numbers-test.true)

pub numbers-preserved : goal.numbers-preserved
numbers-preserved c =
    delivered_next c.args.first c.numbers.number c.args.self.now c.numbers.self c.deliver_one.new.self c.numbers.auto.number
    (let posted = ap length c.letters.ensures in omega (arith, posted, c.numbers-test.true)) c.numbers.invariant
    c.in_ok-deliver_one.ensures.arrives c.in_ok-deliver_one.ensures.book

pub returns-clause-delivers : goal.returns-clause-delivers
returns-clause-delivers c =
    delivered_all c.args.first c.numbers.number c.args.self.now c.numbers.self
    (let posted = ap length c.letters.ensures in omega (arith, posted, c.numbers-test.false)) c.numbers.invariant c.numbers.auto.number
