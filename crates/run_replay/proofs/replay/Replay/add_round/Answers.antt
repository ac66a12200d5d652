use Rattle.std.proofs.Common.{◌≡◌, [], ◌∷◌, ◌++◌, Some, length, refl, sym, ap, ◌∙◌, arith, to_z, of_z}
use Rattle.std.specs.Int.{w64}
use Rattle.std.proofs.lemmas.Int.{ints, to_z-of_z}
use Rattle.std.specs.List.{slice_get}
use Rattle.std.proofs.lemmas.Option.{slice_get_read}
use Rattle.script_semantics.specs.Round.{clock_reading}
use Rattle.run_replay.proofs.TaskLemmas.{none_listed, round_listed}
use Rattle.history.specs.declared.turn.Cause.TheVariants.{Tick}
use Rattle.run_replay.specs.declared.tasks.Task.TheVariants as listed
use Rattle.run_replay.proofs.replay.Replay.add_round.Goals as goal

pub returns-then-not-runs : goal.returns-then-not-runs
returns-then-not-runs c =
    let there : slice_get c.args.self.now.seats.items c.args.who ≡ Some c.index.result.now =
    slice_get_read c.args.self.now.seats.items (length c.args.self.now.seats.items) c.args.who c.index.result.now refl c.requires.seat c.index.ensures in
    none_listed c.args.window c.args.at.0 c.args.self.now c.args.who c.index.result.now c.args.tasks.now.items there (sym c.runs.ensures ∙ c.if-not-runs.true)

pub returns : goal.returns
returns c =
    let there : slice_get c.args.self.now.seats.items c.args.who ≡ Some c.index.result.now =
    slice_get_read c.args.self.now.seats.items (length c.args.self.now.seats.items) c.args.who c.index.result.now refl c.requires.seat c.index.ensures in
    let setting = c.index-setting.result.now in
    let here : slice_get c.args.self.now.settings.items c.args.who ≡ Some setting =
    slice_get_read c.args.self.now.settings.items (length c.args.self.now.settings.items) c.args.who setting refl c.requires.setting c.index-setting.ensures in
    let skew : to_z w64 (of_z w64 setting.skew) ≡ setting.skew = to_z-of_z w64 setting.skew (omega (arith, ints)) in
    let reads : c.reading_of-now.result ≡ clock_reading c.args.window c.args.at.0 setting.skew = c.reading_of-now.ensures ∙ ap (clock_reading c.args.window c.args.at.0) skew in
    round_listed c.args.window c.args.at.0 c.args.self.now c.args.who c.index.result.now setting c.args.tasks.now.items c.add_answer.new.tasks.items c.add_letters.new.tasks.items c.push.new.self.items there
    (sym c.runs.ensures ∙ c.if-not-runs.false) here c.in_ok-add_answer.ensures
    c.in_ok-add_letters.ensures
    (c.in_ok-push.ensures.items ∙ ap (λ now. c.add_letters.new.tasks.items ++ listed.Do c.args.who (Tick now) ∷ []) reads)
