use Rattle.std.proofs.Common.{◌≡◌, Some, length, refl, sym, ◌∙◌}
use Rattle.std.specs.List.{slice_get}
use Rattle.std.proofs.lemmas.Option.{slice_get_read}
use Rattle.run_replay.proofs.TaskLemmas.{restart_listed, runs_listed}
use Rattle.run_replay.proofs.replay.Replay.add_restart.Goals as goal

pub returns-then-runs : goal.returns-then-runs
returns-then-runs c =
    let there : slice_get c.args.self.now.seats.items c.args.who ≡ Some c.index.result.now =
    slice_get_read c.args.self.now.seats.items (length c.args.self.now.seats.items) c.args.who c.index.result.now refl c.requires.seat c.index.ensures in
    runs_listed c.args.self.now c.args.who c.index.result.now c.args.tasks.now.items there (sym c.runs.ensures ∙ c.if-runs.true)

pub returns : goal.returns
returns c =
    let there : slice_get c.args.self.now.seats.items c.args.who ≡ Some c.index.result.now =
    slice_get_read c.args.self.now.seats.items (length c.args.self.now.seats.items) c.args.who c.index.result.now refl c.requires.seat c.index.ensures in
    restart_listed c.args.self.now c.args.who c.index.result.now c.args.tasks.now.items c.push.new.self.items there (sym c.runs.ensures ∙ c.if-runs.false) c.in_ok-push.ensures.items
