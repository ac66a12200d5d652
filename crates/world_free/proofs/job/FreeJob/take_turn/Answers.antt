use Rattle.std.proofs.Common.{OnOk, subst}
use Rattle.world_steps.specs.declared.armed.Outcome.{Outcome}
use Rattle.world_free.specs.Board.{TakesOneTurn}
use Rattle.world_free.specs.Jobs.{HasTried}
use Rattle.world_free.specs.Plan.{Seat, plan_of}
use Rattle.world_free.proofs.JobLemmas.{on_ok}
use Rattle.world_free.proofs.Runs.{has_run, has_stopped}
use Rattle.world_free.proofs.job.FreeJob.take_turn.Goals as goal

pub commit-requires : goal.commit-requires
commit-requires g c =
    let may = c.requires.may in
    record {
      may = (
        may.0,
        c.args.turn,
        subst (λ (o : Outcome). HasTried g.D.Disk.view (plan_of c.args.table.now c.args.book.now may.0 c.args.setting.now) c.args.book.now c.args.who
            c.args.turn c.in_ok-cause.cause o c.step.new.self) c.in-Taken.is (c.in_ok-cause.ensures.steps c.args.book.now may.0 may.1),
      );
    }

pub commit_stop-requires : goal.commit_stop-requires
commit_stop-requires g c =
    let may = c.requires.may in
    record {
      may = (
        may.0,
        c.args.turn,
        subst (λ (o : Outcome). HasTried g.D.Disk.view (plan_of c.args.table.now c.args.book.now may.0 c.args.setting.now) c.args.book.now c.args.who
            c.args.turn c.in_ok-cause.cause o c.step.new.self) c.in-Stopped.is (c.in_ok-cause.ensures.steps c.args.book.now may.0 may.1),
      );
    }

pub returns-in-Taken : goal.returns-in-Taken
returns-in-Taken g c = record {
  goes =
      on_ok c.commit.result _ _
      (λ goes situation runner.
      let plan = plan_of c.args.table.now c.args.book.now situation c.args.setting.now in
      has_run g.D.Disk.view plan c.args.book.now c.args.who _ c.commit.new.self
      (goes situation c.args.turn
      (subst (λ (o : Outcome). HasTried g.D.Disk.view plan c.args.book.now c.args.who c.args.turn c.in_ok-cause.cause o c.step.new.self) c.in-Taken.is
      (c.in_ok-cause.ensures.steps c.args.book.now situation runner))))
      c.commit.ensures.goes;
  one = subst (λ (seat : Seat). OnOk c.commit.result (TakesOneTurn c.args.book.now c.args.who seat c.commit.new.self.seat)) c.step.ensures.seat c.commit.ensures.one;
}

pub returns-in-Stopped : goal.returns-in-Stopped
returns-in-Stopped g c = record {
  goes =
      on_ok c.commit_stop.result _ _
      (λ stops situation runner.
      let plan = plan_of c.args.table.now c.args.book.now situation c.args.setting.now in
      has_stopped g.D.Disk.view plan c.args.book.now c.args.who _ c.commit_stop.new.self
      (stops situation c.args.turn
      (subst (λ (o : Outcome). HasTried g.D.Disk.view plan c.args.book.now c.args.who c.args.turn c.in_ok-cause.cause o c.step.new.self) c.in-Stopped.is
      (c.in_ok-cause.ensures.steps c.args.book.now situation runner))))
      c.commit_stop.ensures.stops;
  one =
      subst (λ (seat : Seat). OnOk c.commit_stop.result (TakesOneTurn c.args.book.now c.args.who seat c.commit_stop.new.self.seat)) c.step.ensures.seat
      c.commit_stop.ensures.one;
}
