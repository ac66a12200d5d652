use Rattle.std.proofs.Common.{subst}
use Rattle.settling.specs.Idle.{IsIdleAt}
use Rattle.settling.specs.Settles.{LeadsNow}
use Rattle.world_rounds.specs.Quiet.{AnswersFor}
use Rattle.world_rounds.proofs.DrainLemmas.{drained_next, drained_none}
use Rattle.world_rounds.proofs.LoopLemmas.{below_in, given_world, leads_next, left_falls, not_quiet, rests_now}
use Rattle.world_rounds.proofs.world.World.drain_until_idle.Goals as goal

pub rounds-init : goal.rounds-init
rounds-init g c = (drained_none g.D.Disk.view c.args.table.now c.args.who c.args.at.0 c.args.self.now (given_world g.D.Disk.view c.args.table.now (λ n s. LeadsNow n c.args.table.now c.args.who s) c.args.self.now c.requires.given) c.requires.run, c.requires.given)

pub is_idle-requires-clause-world : goal.is_idle-requires-clause-world
is_idle-requires-clause-world g c = c.rounds.invariant.0.world

pub is_idle-requires-clause-run : goal.is_idle-requires-clause-run
is_idle-requires-clause-run g c = c.rounds.invariant.0.run

pub is_idle-requires-clause-member : goal.is_idle-requires-clause-member
is_idle-requires-clause-member g c = below_in g.D.Disk.view c.args.table.now c.args.who c.args.at.0 c.args.self.now c.rounds.self (given_world g.D.Disk.view c.args.table.now (λ n s. LeadsNow n c.args.table.now c.args.who s) c.args.self.now c.requires.given) c.rounds.invariant.0 c.requires.member

pub drain_round-requires-clause-world : goal.drain_round-requires-clause-world
drain_round-requires-clause-world g c = c.rounds.invariant.0.world

pub drain_round-requires-clause-run : goal.drain_round-requires-clause-run
drain_round-requires-clause-run g c = c.rounds.invariant.0.run

pub drain_round-requires-clause-member : goal.drain_round-requires-clause-member
drain_round-requires-clause-member g c = below_in g.D.Disk.view c.args.table.now c.args.who c.args.at.0 c.args.self.now c.rounds.self (given_world g.D.Disk.view c.args.table.now (λ n s. LeadsNow n c.args.table.now c.args.who s) c.args.self.now c.requires.given) c.rounds.invariant.0 c.requires.member

pub rounds-smaller : goal.rounds-smaller
rounds-smaller g c =
    let drained = drained_next g.D.Disk.view c.args.table.now c.args.who c.args.at.0 c.args.self.now c.rounds.self c.drain_round.new.self c.rounds.invariant.0 (not_quiet g.D.Disk.view c.args.table.now c.args.who c.args.at.0 c.rounds.self (subst (λ answer. AnswersFor g.D.Disk.view c.args.table.now (IsIdleAt c.args.table.now c.args.who c.args.at.0) c.rounds.self answer) c.rounds-test.true c.is_idle.ensures)) c.in_ok-drain_round.ensures.goes c.in_ok-drain_round.ensures.members in
    left_falls g.D.Disk.view c.args.table.now c.args.who c.args.at.0 c.rounds.self c.drain_round.new.self c.requires.inside c.rounds.invariant.1 (subst (λ answer. AnswersFor g.D.Disk.view c.args.table.now (IsIdleAt c.args.table.now c.args.who c.args.at.0) c.rounds.self answer) c.rounds-test.true c.is_idle.ensures) c.rounds.invariant.0.run c.in_ok-drain_round.ensures.run
    (below_in g.D.Disk.view c.args.table.now c.args.who c.args.at.0 c.args.self.now c.rounds.self (given_world g.D.Disk.view c.args.table.now (λ n s. LeadsNow n c.args.table.now c.args.who s) c.args.self.now c.requires.given) c.rounds.invariant.0 c.requires.member)
    (below_in g.D.Disk.view c.args.table.now c.args.who c.args.at.0 c.args.self.now c.drain_round.new.self (given_world g.D.Disk.view c.args.table.now (λ n s. LeadsNow n c.args.table.now c.args.who s) c.args.self.now c.requires.given) drained c.requires.member)
    c.in_ok-drain_round.ensures.goes c.in_ok-drain_round.ensures.members c.in_ok-drain_round.ensures.bounded

pub rounds-preserved : goal.rounds-preserved
rounds-preserved g c = (
  drained_next g.D.Disk.view c.args.table.now c.args.who c.args.at.0 c.args.self.now c.rounds.self c.drain_round.new.self c.rounds.invariant.0 (not_quiet g.D.Disk.view c.args.table.now c.args.who c.args.at.0 c.rounds.self (subst (λ answer. AnswersFor g.D.Disk.view c.args.table.now (IsIdleAt c.args.table.now c.args.who c.args.at.0) c.rounds.self answer) c.rounds-test.true c.is_idle.ensures)) c.in_ok-drain_round.ensures.goes c.in_ok-drain_round.ensures.members,
  leads_next g.D.Disk.view c.args.table.now c.args.who c.args.at.0 c.rounds.self c.drain_round.new.self c.requires.inside c.rounds.invariant.1 c.in_ok-drain_round.ensures.goes c.in_ok-drain_round.ensures.members c.in_ok-drain_round.ensures.bounded,
)

pub returns-clause-goes : goal.returns-clause-goes
returns-clause-goes g c = c.rounds.invariant.0.goes

pub returns-clause-given : goal.returns-clause-given
returns-clause-given g c = rests_now g.D.Disk.view c.args.table.now c.args.who c.args.at.0 c.rounds.self c.rounds.invariant.1 (subst (λ answer. AnswersFor g.D.Disk.view c.args.table.now (IsIdleAt c.args.table.now c.args.who c.args.at.0) c.rounds.self answer) c.rounds-test.false c.is_idle.ensures)
