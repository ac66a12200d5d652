use Rattle.std.proofs.Common.{arith, subst}
use Rattle.script_semantics.specs.Settling.{IsQuiet}
use Rattle.settling.specs.Settles.{HasBeenIdleFor}
use Rattle.world_rounds.specs.Quiet.{AnswersFor}
use Rattle.world_rounds.proofs.DrainLemmas.{drained_next, drained_none, drained_whole}
use Rattle.world_rounds.proofs.LoopLemmas.{below_in, given_world, caught_up_next, rested_gives}
use Rattle.world_rounds.proofs.world.World.drain_until_caught_up.Goals as goal

pub rounds-init : goal.rounds-init
rounds-init g c = (drained_none g.D.Disk.view c.args.table.now c.args.who c.args.at.0 c.args.self.now (given_world g.D.Disk.view c.args.table.now (λ n s. HasBeenIdleFor 0 n c.args.table.now c.args.who c.args.at.0 s) c.args.self.now c.requires.given) c.requires.run, omega arith, c.requires.given)

pub is_quiet-requires-clause-world : goal.is_quiet-requires-clause-world
is_quiet-requires-clause-world g c = c.rounds.invariant.0.world

pub is_quiet-requires-clause-run : goal.is_quiet-requires-clause-run
is_quiet-requires-clause-run g c = c.rounds.invariant.0.run

pub is_quiet-requires-clause-member : goal.is_quiet-requires-clause-member
is_quiet-requires-clause-member g c = below_in g.D.Disk.view c.args.table.now c.args.who c.args.at.0 c.args.self.now c.rounds.self (given_world g.D.Disk.view c.args.table.now (λ n s. HasBeenIdleFor 0 n c.args.table.now c.args.who c.args.at.0 s) c.args.self.now c.requires.given) c.rounds.invariant.0 c.requires.member

pub drain_round-requires-clause-world : goal.drain_round-requires-clause-world
drain_round-requires-clause-world g c = c.rounds.invariant.0.world

pub drain_round-requires-clause-run : goal.drain_round-requires-clause-run
drain_round-requires-clause-run g c = c.rounds.invariant.0.run

pub drain_round-requires-clause-member : goal.drain_round-requires-clause-member
drain_round-requires-clause-member g c = below_in g.D.Disk.view c.args.table.now c.args.who c.args.at.0 c.args.self.now c.rounds.self (given_world g.D.Disk.view c.args.table.now (λ n s. HasBeenIdleFor 0 n c.args.table.now c.args.who c.args.at.0 s) c.args.self.now c.requires.given) c.rounds.invariant.0 c.requires.member

pub rounds-preserved : goal.rounds-preserved
rounds-preserved g c =
    let next = caught_up_next g.D.Disk.view c.args.table.now c.args.who c.args.at.0 c.rounds._round c.rounds.self c.drain_round.new.self c.requires.inside c.rounds.invariant.1 c.rounds.invariant.2 (subst (λ answer. AnswersFor g.D.Disk.view c.args.table.now (IsQuiet c.rounds.self.book.members c.args.table.now c.args.who c.args.at.0) c.rounds.self answer) c.if-is_quiet.false c.is_quiet.ensures) c.in_ok-drain_round.ensures.goes c.in_ok-drain_round.ensures.members c.in_ok-drain_round.ensures.bounded in (
      drained_next g.D.Disk.view c.args.table.now c.args.who c.args.at.0 c.args.self.now c.rounds.self c.drain_round.new.self c.rounds.invariant.0 (subst (λ answer. AnswersFor g.D.Disk.view c.args.table.now (IsQuiet c.rounds.self.book.members c.args.table.now c.args.who c.args.at.0) c.rounds.self answer) c.if-is_quiet.false c.is_quiet.ensures) c.in_ok-drain_round.ensures.goes c.in_ok-drain_round.ensures.members,
      next.0,
      next.1,
    )

pub returns-then-is_quiet-clause-goes : goal.returns-then-is_quiet-clause-goes
returns-then-is_quiet-clause-goes g c = drained_whole g.D.Disk.view c.args.table.now c.args.who c.args.at.0 c.args.self.now c.rounds.self c.rounds.invariant.0 (subst (λ answer. AnswersFor g.D.Disk.view c.args.table.now (IsQuiet c.rounds.self.book.members c.args.table.now c.args.who c.args.at.0) c.rounds.self answer) c.if-is_quiet.true c.is_quiet.ensures)

pub returns-then-is_quiet-clause-given : goal.returns-then-is_quiet-clause-given
returns-then-is_quiet-clause-given g c = rested_gives g.D.Disk.view c.args.table.now c.args.who c.args.at.0 c.rounds._round c.rounds.self c.rounds.invariant.2
