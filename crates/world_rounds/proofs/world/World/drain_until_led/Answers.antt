use Rattle.std.proofs.Common.{◌≡◌, ◌-◌, ◌+◌, suc, arith, subst}
use Rattle.script_semantics.specs.Settling.{IsQuiet}
use Rattle.settling.specs.Settles.{LeadsSoon}
use Rattle.world_rounds.specs.Bounds.{IsFaultlessIn}
use Rattle.world_rounds.specs.Quiet.{AnswersFor}
use Rattle.world_rounds.proofs.DrainLemmas.{drained_next, drained_none}
use Rattle.world_rounds.proofs.LoopLemmas.{below_in, given_world, leads_at_last, leads_by_quiet, leads_soon_next}
use Rattle.world_rounds.proofs.world.World.drain_until_led.Goals as goal

pub rounds-init : goal.rounds-init
rounds-init g c = (drained_none g.D.Disk.view c.args.table.now c.args.who c.args.at.0 c.args.self.now (given_world g.D.Disk.view c.args.table.now (λ n s. LeadsSoon 4 n c.args.table.now c.args.who s) c.args.self.now c.requires.given) c.requires.run, c.requires.given)

pub is_quiet-requires-clause-world : goal.is_quiet-requires-clause-world
is_quiet-requires-clause-world g c = c.rounds.invariant.0.world

pub is_quiet-requires-clause-run : goal.is_quiet-requires-clause-run
is_quiet-requires-clause-run g c = c.rounds.invariant.0.run

pub is_quiet-requires-clause-member : goal.is_quiet-requires-clause-member
is_quiet-requires-clause-member g c = below_in g.D.Disk.view c.args.table.now c.args.who c.args.at.0 c.args.self.now c.rounds.self (given_world g.D.Disk.view c.args.table.now (λ n s. LeadsSoon 4 n c.args.table.now c.args.who s) c.args.self.now c.requires.given) c.rounds.invariant.0 c.requires.member

pub drain_round-requires-clause-world : goal.drain_round-requires-clause-world
drain_round-requires-clause-world g c = c.rounds.invariant.0.world

pub drain_round-requires-clause-run : goal.drain_round-requires-clause-run
drain_round-requires-clause-run g c = c.rounds.invariant.0.run

pub drain_round-requires-clause-member : goal.drain_round-requires-clause-member
drain_round-requires-clause-member g c = below_in g.D.Disk.view c.args.table.now c.args.who c.args.at.0 c.args.self.now c.rounds.self (given_world g.D.Disk.view c.args.table.now (λ n s. LeadsSoon 4 n c.args.table.now c.args.who s) c.args.self.now c.requires.given) c.rounds.invariant.0 c.requires.member

pub rounds-preserved : goal.rounds-preserved
rounds-preserved g c =
    let more : 4 - c.rounds._round ≡ suc (4 - (c.rounds._round + 1)) = omega (arith, c.rounds-test.true) in (
      drained_next g.D.Disk.view c.args.table.now c.args.who c.args.at.0 c.args.self.now c.rounds.self c.drain_round.new.self c.rounds.invariant.0 (subst (λ answer. AnswersFor g.D.Disk.view c.args.table.now (IsQuiet c.rounds.self.book.members c.args.table.now c.args.who c.args.at.0) c.rounds.self answer) c.if-is_quiet.false c.is_quiet.ensures) c.in_ok-drain_round.ensures.goes c.in_ok-drain_round.ensures.members,
      leads_soon_next g.D.Disk.view c.args.table.now c.args.who c.args.at.0 (4 - (c.rounds._round + 1)) c.rounds.self c.drain_round.new.self c.requires.inside
          (subst (λ k. IsFaultlessIn g.D.Disk.view c.args.table.now (λ n s. LeadsSoon k n c.args.table.now c.args.who s) c.rounds.self) more c.rounds.invariant.1) c.in_ok-drain_round.ensures.goes c.in_ok-drain_round.ensures.members c.in_ok-drain_round.ensures.bounded,
    )

pub returns-then-is_quiet-clause-goes : goal.returns-then-is_quiet-clause-goes
returns-then-is_quiet-clause-goes g c = c.rounds.invariant.0.goes

pub returns-then-is_quiet-clause-given : goal.returns-then-is_quiet-clause-given
returns-then-is_quiet-clause-given g c = leads_by_quiet g.D.Disk.view c.args.table.now c.args.who c.args.at.0 (4 - c.rounds._round) c.rounds.self c.rounds.invariant.1 (subst (λ answer. AnswersFor g.D.Disk.view c.args.table.now (IsQuiet c.rounds.self.book.members c.args.table.now c.args.who c.args.at.0) c.rounds.self answer) c.if-is_quiet.true c.is_quiet.ensures)

pub returns-clause-goes : goal.returns-clause-goes
returns-clause-goes g c = c.rounds.invariant.0.goes

pub returns-clause-given : goal.returns-clause-given
returns-clause-given g c =
    let none : 4 - c.rounds._round ≡ 0 = omega (arith, c.rounds-test.false) in
    leads_at_last g.D.Disk.view c.args.table.now c.args.who c.rounds.self (subst (λ k. IsFaultlessIn g.D.Disk.view c.args.table.now (λ n s. LeadsSoon k n c.args.table.now c.args.who s) c.rounds.self) none c.rounds.invariant.1)
