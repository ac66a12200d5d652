use Rattle.std.proofs.Common.{Some, refl, sym, subst}
use Rattle.history.specs.declared.turn.Turn.TheVariants.{Stopped}
use Rattle.turn_book.specs.Turns.{opening_at, shown_at}
use Rattle.world_law.specs.Rows.{MayComeNext}
use Rattle.world_law.specs.declared.row.BookRow.{BookRow}
use Rattle.world_free.specs.Plan.{plan_of}
use Rattle.world_free.specs.Ready.{row_of_stop}
use Rattle.world_free.proofs.Commits.{follows_there, has_broken, stop_comes_in, stop_row, takes_one}
use Rattle.world_free.proofs.job.FreeJob.commit_stop.Goals as goal

pub commit-requires-clause-follows : goal.commit-requires-clause-follows
commit-requires-clause-follows g c =
    let may = c.requires.may in
    subst (λ (row : BookRow). MayComeNext (opening_at c.enter-turn.result).state.value.members c.args.table.now (shown_at c.enter-turn.result) row)
    (sym (stop_row c.args.who c.args.cause c.args.change c.is_some-kept.result c.change_alone-out.result c.is_some-kept.ensures c.change_alone-out.ensures.alone))
    (follows_there c.args.table.now c.args.book.now c.args.self.now.seat c.enter-turn.result (row_of_stop c.args.who c.args.cause c.args.change) c.state.result.now may.2.of_plan.key
    c.enter-turn.ensures.turn c.enter-turn.ensures.rest c.state.ensures.state
    (stop_comes_in g.D.Disk.view (plan_of c.args.table.now c.args.book.now may.0 c.args.setting.now) c.args.book.now c.args.who may.1 c.args.cause
    c.args.change c.args.self.now may.2 c.enter-turn.result c.enter-turn.ensures.turn c.enter-turn.ensures.history c.enter-turn.ensures.rest c.state.result.now c.state.ensures.state))

pub returns-in-Ok : goal.returns-in-Ok
returns-in-Ok g c = record {
  stops = λ situation turn stopper.
      has_broken g.D.Disk.view (plan_of c.args.table.now c.args.book.now situation c.args.setting.now) c.args.book.now c.args.who turn c.args.cause
      c.args.change c.args.self.now stopper c.enter-turn.result c.enter-turn.ensures.turn c.enter-turn.ensures.history c.enter-turn.ensures.rest _ _
      (stop_row c.args.who c.args.cause c.args.change c.is_some-kept.result c.change_alone-out.result c.is_some-kept.ensures c.change_alone-out.ensures.alone) refl
      c.note_stop.ensures.stopped c.commit.ensures.seat_of c.commit.ensures.number c.commit.ensures.first c.commit.ensures.owns c.commit.ensures.saw;
  one =
      takes_one (plan_of c.args.table.now c.args.book.now c.requires.may.0 c.args.setting.now) c.args.book.now c.args.who c.args.self.now.seat _ c.enter-turn.result
      (record { turn = Stopped c.args.who (Some c.args.cause) c.is_some-kept.result; out = c.change_alone-out.result }) c.requires.may.2.of_plan c.enter-turn.ensures.turn
      c.enter-turn.ensures.history c.enter-turn.ensures.rest refl
      c.commit.ensures.seat_of c.commit.ensures.number c.commit.ensures.first c.commit.ensures.owns c.commit.ensures.saw;
}
