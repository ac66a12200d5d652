use Rattle.std.proofs.Common.{◌≡◌, ◌<◌, IfSome, Some, length, refl, sym, subst}
use Rattle.std.specs.List.{slice_get}
use Rattle.std.proofs.Math.ListN.{set}
use Rattle.std.proofs.lemmas.Option.{slice_get_read}
use Rattle.history.specs.Book.{turn_of}
use Rattle.run_replay.specs.Taken.{AreSetAfter}
use Rattle.run_replay.proofs.replay.Replay.note.Goals as goal

pub returns-in-Did : goal.returns-in-Did
returns-in-Did c =
    let below : c.in-Did.who < length c.args.self.now.settings.items =
    subst (λ turn. IfSome (turn_of turn) (λ who. who < length c.args.self.now.settings.items)) c.in-Did.is c.requires.member in
    let there : slice_get c.args.self.now.settings.items c.in-Did.who ≡ Some c.index_mut.result.now =
    slice_get_read c.args.self.now.settings.items (length c.args.self.now.settings.items) c.in-Did.who c.index_mut.result.now refl below c.index_mut.ensures.value in
    record {
      settings = subst (λ turn. AreSetAfter turn c.args.change.now c.args.self.now.settings.items (set c.args.self.now.settings.items c.in-Did.who c.note_step.new.setting)) (sym c.in-Did.is)
          (record { was = c.index_mut.result.now; there = there; now = c.note_step.new.setting; is = refl; noted = c.note_step.ensures });
      latest = c.reading_after-self.ensures;
      book = refl;
      seats = refl;
      cuts = refl;
    }

pub returns-in-Stopped : goal.returns-in-Stopped
returns-in-Stopped c =
    let below : c.in-Stopped.who < length c.args.self.now.settings.items =
    subst (λ turn. IfSome (turn_of turn) (λ who. who < length c.args.self.now.settings.items)) c.in-Stopped.is c.requires.member in
    let there : slice_get c.args.self.now.settings.items c.in-Stopped.who ≡ Some c.index_mut-in-Stopped.result.now =
    slice_get_read c.args.self.now.settings.items (length c.args.self.now.settings.items) c.in-Stopped.who c.index_mut-in-Stopped.result.now refl below c.index_mut-in-Stopped.ensures.value in
    record {
      settings = subst (λ turn. AreSetAfter turn c.args.change.now c.args.self.now.settings.items (set c.args.self.now.settings.items c.in-Stopped.who c.note_stop.new.setting)) (sym c.in-Stopped.is)
          (record { was = c.index_mut-in-Stopped.result.now; there = there; now = c.note_stop.new.setting; is = refl; noted = c.note_stop.ensures });
      latest = c.reading_after-self.ensures;
      book = refl;
      seats = refl;
      cuts = refl;
    }

pub returns-in-Restarted : goal.returns-in-Restarted
returns-in-Restarted c = record {
  settings = subst (λ turn. AreSetAfter turn c.args.change.now c.args.self.now.settings.items c.args.self.now.settings.items) (sym c.in-Restarted.is) refl;
  latest = c.reading_after-self.ensures;
  book = refl;
  seats = refl;
  cuts = refl;
}

pub returns-in-Arrived : goal.returns-in-Arrived
returns-in-Arrived c = record {
  settings = subst (λ turn. AreSetAfter turn c.args.change.now c.args.self.now.settings.items c.args.self.now.settings.items) (sym c.in-Arrived.is) refl;
  latest = c.reading_after-self.ensures;
  book = refl;
  seats = refl;
  cuts = refl;
}
