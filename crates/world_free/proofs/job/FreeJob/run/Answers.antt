use Rattle.std.proofs.Common.{◌≡◌, ℕ, ◌∙◌, arith, subst}
use Rattle.world_free.specs.Jobs.{IsJobAt}
use Rattle.world_free.specs.Plan.{plan_of}
use Rattle.world_free.proofs.Runs.{has_rested}
use Rattle.world_free.proofs.job.FreeJob.run.Goals as goal

pub take_and_show-requires-clause-may : goal.take_and_show-requires-clause-may
take_and_show-requires-clause-may g c = (c.requires.may.0, (c.turns.invariant.0 c.requires.may.0 c.requires.may.1).running c.if-not-self.false)

pub turns-preserved : goal.turns-preserved
turns-preserved g c = (
  λ situation job. c.in-Ok.ensures.goes situation ((c.turns.invariant.0 situation job).running c.if-not-self.false),
  c.in-Ok.ensures.may_show,
  λ situation first job shown.
      c.in-Ok.ensures.shows situation first ((c.turns.invariant.0 situation job).running c.if-not-self.false)
      (c.turns.invariant.2 situation first job shown),
  c.take_and_show.ensures.stays ∙ c.turns.invariant.3,
)

pub returns-then-not-self : goal.returns-then-not-self
returns-then-not-self g c = record {
  runs = λ had situation job.
      has_rested g.D.Disk.view (plan_of c.args.table.now c.args.book.now situation c.args.setting.now) c.args.book.now c.args.who c.turns.turn
      c.args.setting.now.turns c.turns.self c.if-not-self.true (c.turns.invariant.0 situation job);
  may_show = λ had. c.turns.invariant.1;
  shows = λ had. c.turns.invariant.2;
  stays = c.turns.invariant.3;
}

pub returns : goal.returns
returns g c = record {
  runs = λ had situation job.
      let all : c.turns.turn ≡ c.args.setting.now.turns = omega (arith, c.turns-test.false, c.turns.auto.turn-end) in
      subst (λ (turns : ℕ). IsJobAt g.D.Disk.view (plan_of c.args.table.now c.args.book.now situation c.args.setting.now) c.args.book.now c.args.who turns c.turns.self) all
      (c.turns.invariant.0 situation job);
  may_show = λ had. c.turns.invariant.1;
  shows = λ had. c.turns.invariant.2;
  stays = c.turns.invariant.3;
}
