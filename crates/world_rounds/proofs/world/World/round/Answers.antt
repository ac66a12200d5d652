use Rattle.std.proofs.Common.{◌≡◌, arith, subst}
use Rattle.script_semantics.specs.Arms.{AreRoundsByArms}
use Rattle.world_rounds.specs.World.{GoesOnBy}
use Rattle.world_rounds.proofs.RoundsOfAll.{gone_next, gone_none}
use Rattle.world_rounds.proofs.world.World.round.Goals as goal

pub rounds-init : goal.rounds-init
rounds-init g c = gone_none g.D.Disk.view c.args.table.now c.args.at.0 c.args.self.now c.requires.world

pub round_by_arms-requires-clause-world : goal.round_by_arms-requires-clause-world
round_by_arms-requires-clause-world g c = λ lives borrowed. c.rounds.invariant.world

pub rounds-preserved : goal.rounds-preserved
rounds-preserved g c =
    gone_next g.D.Disk.view c.args.table.now c.args.at.0 c.rounds._round c.args.self.now c.rounds.self c.round_by_arms.new.self c.rounds.invariant
    c.in_ok-round_by_arms.ensures.goes c.in_ok-round_by_arms.ensures.members

pub returns-clause-goes : goal.returns-clause-goes
returns-clause-goes g c =
    let whole : c.rounds._round ≡ c.args.rounds = omega (arith, c.rounds-test.false, c.rounds.auto._round-end) in
    subst (λ n. GoesOnBy g.D.Disk.view c.args.table.now (AreRoundsByArms c.args.self.now.book.members c.args.table.now.window c.args.at.0 n) c.args.self.now c.rounds.self)
    whole c.rounds.invariant.goes

pub returns-clause-members : goal.returns-clause-members
returns-clause-members g c = c.rounds.invariant.members
