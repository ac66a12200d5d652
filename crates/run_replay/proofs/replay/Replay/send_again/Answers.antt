use Rattle.std.proofs.Common.{◌≡◌, ◌<◌, ◌++◌, ◌∷◌, [], Some, length, refl, sym, ap, ◌∙◌, arith}
use Rattle.std.specs.List.{slice_get}
use Rattle.std.proofs.lemmas.Option.{slice_get_read}
use Rattle.run_replay.proofs.SettingLemmas.{addressee, again_moved, again_none, again_stopped}
use Rattle.run_replay.proofs.replay.Replay.send_again.Goals as goal

pub returns-in-None-clause-sets : goal.returns-in-None-clause-sets
returns-in-None-clause-sets c = again_none c.args.self.now c.args.number c.in-None.ensures.none

pub index-requires : goal.index-requires
index-requires c =
    let ready = c.requires.ready.1 in
    let found = c.in-Some.ensures.some in
    let below : found.0.to < c.args.self.now.book.members = addressee c.requires.ready.0 ready.rows c.args.self.now ready.situation c.args.number found.0 ready.is found.1 in
    omega (arith, c.args.self.now.seats.ok.0, ready.is.seated.count, below, found.2)

pub returns-then-not-runs-clause-sets : goal.returns-then-not-runs-clause-sets
returns-then-not-runs-clause-sets c =
    let ready = c.requires.ready.1 in
    let found = c.in-Some.ensures.some in
    let below : found.0.to < c.args.self.now.book.members = addressee c.requires.ready.0 ready.rows c.args.self.now ready.situation c.args.number found.0 ready.is found.1 in
    let there : slice_get c.args.self.now.seats.items c.in-Some.to ≡ Some c.index.result.now =
    slice_get_read c.args.self.now.seats.items (length c.args.self.now.seats.items) c.in-Some.to c.index.result.now refl (omega (arith, ready.is.seated.count, below, found.2)) c.index.ensures in
    again_stopped c.args.self.now c.args.number found.0 c.index.result.now found.1 (ap (slice_get c.args.self.now.seats.items) found.2 ∙ there) (sym c.runs.ensures ∙ c.if-not-runs.true)

pub index_mut-requires : goal.index_mut-requires
index_mut-requires c =
    let ready = c.requires.ready.1 in
    let found = c.in-Some.ensures.some in
    let below : found.0.to < c.args.self.now.book.members = addressee c.requires.ready.0 ready.rows c.args.self.now ready.situation c.args.number found.0 ready.is found.1 in
    omega (arith, c.args.self.now.settings.ok.0, ready.is.seated.set, below, found.2)

pub returns-clause-sets : goal.returns-clause-sets
returns-clause-sets c =
    let ready = c.requires.ready.1 in
    let found = c.in-Some.ensures.some in
    let below : found.0.to < c.args.self.now.book.members = addressee c.requires.ready.0 ready.rows c.args.self.now ready.situation c.args.number found.0 ready.is found.1 in
    let there : slice_get c.args.self.now.seats.items c.in-Some.to ≡ Some c.index.result.now =
    slice_get_read c.args.self.now.seats.items (length c.args.self.now.seats.items) c.in-Some.to c.index.result.now refl (omega (arith, ready.is.seated.count, below, found.2)) c.index.ensures in
    let here : slice_get c.args.self.now.settings.items c.in-Some.to ≡ Some c.index_mut.result.now =
    slice_get_read c.args.self.now.settings.items (length c.args.self.now.settings.items) c.in-Some.to c.index_mut.result.now refl (omega (arith, ready.is.seated.set, below, found.2)) c.index_mut.ensures.value in
    again_moved c.args.self.now _ c.args.number found.0 c.in-Some.to c.index.result.now c.index_mut.result.now _ found.1 found.2 there (sym c.runs.ensures ∙ c.if-not-runs.false)
    refl refl refl refl here refl refl (c.in_ok-push_back.ensures.items ∙ ap (λ number. c.index_mut.result.now.mail.items ++ number ∷ []) c.from.ensures)
