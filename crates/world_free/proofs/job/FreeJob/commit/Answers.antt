use Rattle.std.proofs.Common.{ℕ, List, refl, ap, ◌∙◌, subst}
use Rattle.world_steps.specs.Turns.{noted}
use Rattle.world_free.specs.Mails.{HasLooked}
use Rattle.world_free.specs.Plan.{plan_of}
use Rattle.world_free.specs.Ready.{row_of_step}
use Rattle.world_free.proofs.Commits.{follows_there, has_committed_in, looked_in, may_join_in, takes_one}
use Rattle.world_free.proofs.job.FreeJob.commit.Goals as goal

pub make_ready-requires-clause-may : goal.make_ready-requires-clause-may
make_ready-requires-clause-may g c =
    let may = c.requires.may in
    may_join_in g.D.Disk.view (plan_of c.args.table.now c.args.book.now may.0 c.args.setting.now) c.args.book.now c.args.who may.1 c.args.taken c.args.self.now may.2
    c.enter-turn.result c.enter-turn.ensures.turn c.enter-turn.ensures.history c.enter-turn.ensures.rest c.state.result.now c.state.ensures.state

pub make_ready-requires-clause-looked : goal.make_ready-requires-clause-looked
make_ready-requires-clause-looked g c =
    let may = c.requires.may in
    looked_in g.D.Disk.view (plan_of c.args.table.now c.args.book.now may.0 c.args.setting.now) c.args.book.now c.args.who may.1 c.args.taken c.args.self.now may.2
    c.enter-turn.result c.enter-turn.ensures.turn c.enter-turn.ensures.history c.enter-turn.ensures.rest c.state.result.now c.state.ensures.state

pub commit-requires-clause-follows : goal.commit-requires-clause-follows
commit-requires-clause-follows g c =
    follows_there c.args.table.now c.args.book.now c.args.self.now.seat c.enter-turn.result (row_of_step c.args.who c.args.taken c.in-Ok.call) c.state.result.now c.requires.may.2.of_plan.key
    c.enter-turn.ensures.turn c.enter-turn.ensures.rest c.state.ensures.state c.in-Ok.ensures.next

pub returns-in-Ok : goal.returns-in-Ok
returns-in-Ok g c = record {
  goes = λ situation turn stepper.
      has_committed_in g.D.Disk.view (plan_of c.args.table.now c.args.book.now situation c.args.setting.now) c.args.book.now c.args.who turn c.args.taken
      c.args.self.now stepper c.enter-turn.result c.enter-turn.ensures.turn c.enter-turn.ensures.history c.enter-turn.ensures.rest c.state.result.now c.state.ensures.state c.in-Ok.call c.make_ready.new.book
      c.make_ready.new.mail _ c.in-Ok.ensures.made c.in-Ok.ensures.stands c.in-Ok.ensures.pending c.in-Ok.ensures.members c.in-Ok.ensures.few c.in-Ok.ensures.fate
      (subst (λ (cuts : List (ℕ × ℕ)). HasLooked cuts c.state.result.now.letters c.args.who c.args.taken c.args.self.now.mail c.make_ready.new.mail) c.deref.ensures.value c.in-Ok.ensures.looks) refl
      (c.note_step.ensures.noted ∙ ap (λ (calls : ℕ). noted c.in-Ok.call calls c.make_ready.new.mail.mail) c.calls_to_save-calls.ensures.calls) refl refl c.commit.ensures.seat_of c.commit.ensures.number c.commit.ensures.first c.commit.ensures.owns c.commit.ensures.saw;
  one =
      takes_one (plan_of c.args.table.now c.args.book.now c.requires.may.0 c.args.setting.now) c.args.book.now c.args.who c.args.self.now.seat _ c.enter-turn.result
      (row_of_step c.args.who c.args.taken c.in-Ok.call) c.requires.may.2.of_plan c.enter-turn.ensures.turn c.enter-turn.ensures.history c.enter-turn.ensures.rest refl
      c.commit.ensures.seat_of c.commit.ensures.number c.commit.ensures.first c.commit.ensures.owns c.commit.ensures.saw;
}
