use Rattle.std.proofs.Common.{◌≡◌, Some, length, arith, refl, sym, ap, ◌∙◌}
use Rattle.std.specs.List.{slice_get}
use Rattle.std.proofs.lemmas.Option.{slice_get_read}
use Rattle.script_semantics.specs.Situation.{is_cut}
use Rattle.run_replay.proofs.DeliverLemmas.{lost, moved, unheard}
use Rattle.run_replay.proofs.SettingLemmas.{addressee}
use Rattle.run_replay.proofs.replay.Replay.deliver_one.Goals as goal

pub returns-then-is_lost-clause-arrives : goal.returns-then-is_lost-clause-arrives
returns-then-is_lost-clause-arrives c =
    let letter = c.letter_at-letter.result.now in
    lost c.args.self.now c.args.number letter c.letter_at-letter.ensures
    (ap (is_cut letter.from letter.to) (sym c.deref.ensures.value) ∙ sym c.is_lost.ensures ∙ c.if-is_lost.true)

pub index-requires : goal.index-requires
index-requires c =
    let ready = c.requires.ready.1 in
    let count = ready.is.seated.count in
    let below = addressee c.requires.ready.0 ready.rows c.args.self.now ready.situation c.args.number c.letter_at-letter.result.now ready.is c.letter_at-letter.ensures in
    omega (arith, c.args.self.now.seats.ok.0, count, below)

pub returns-then-not-runs-clause-arrives : goal.returns-then-not-runs-clause-arrives
returns-then-not-runs-clause-arrives c =
    let ready = c.requires.ready.1 in
    let letter = c.letter_at-letter.result.now in
    let count = ready.is.seated.count in
    let below = addressee c.requires.ready.0 ready.rows c.args.self.now ready.situation c.args.number letter ready.is c.letter_at-letter.ensures in
    let there : slice_get c.args.self.now.seats.items letter.to ≡ Some c.index.result.now =
    slice_get_read c.args.self.now.seats.items (length c.args.self.now.seats.items) letter.to c.index.result.now refl (omega (arith, count, below)) c.index.ensures in
    unheard c.args.self.now c.args.number letter c.index.result.now c.letter_at-letter.ensures there (sym c.runs.ensures ∙ c.if-not-runs.true)

pub index_mut-requires : goal.index_mut-requires
index_mut-requires c =
    let ready = c.requires.ready.1 in
    let set = ready.is.seated.set in
    let below = addressee c.requires.ready.0 ready.rows c.args.self.now ready.situation c.args.number c.letter_at-letter.result.now ready.is c.letter_at-letter.ensures in
    omega (arith, c.args.self.now.settings.ok.0, set, below)

pub returns-clause-arrives : goal.returns-clause-arrives
returns-clause-arrives c =
    let ready = c.requires.ready.1 in
    let letter = c.letter_at-letter.result.now in
    let count = ready.is.seated.count in
    let total = ready.is.seated.set in
    let below = addressee c.requires.ready.0 ready.rows c.args.self.now ready.situation c.args.number letter ready.is c.letter_at-letter.ensures in
    let there : slice_get c.args.self.now.seats.items letter.to ≡ Some c.index.result.now =
    slice_get_read c.args.self.now.seats.items (length c.args.self.now.seats.items) letter.to c.index.result.now refl (omega (arith, count, below)) c.index.ensures in
    let here : slice_get c.args.self.now.settings.items letter.to ≡ Some c.index_mut.result.now =
    slice_get_read c.args.self.now.settings.items (length c.args.self.now.settings.items) letter.to c.index_mut.result.now refl (omega (arith, total, below)) c.index_mut.ensures.value in
    moved c.args.self.now _ c.args.number letter c.index.result.now c.index_mut.result.now _ c.letter_at-letter.ensures
    (ap (is_cut letter.from letter.to) (sym c.deref.ensures.value) ∙ sym c.is_lost.ensures ∙ c.if-is_lost.false) there (sym c.runs.ensures ∙ c.if-not-runs.false) here refl refl refl refl refl refl
    c.in_ok-push_back.ensures.items
