use Rattle.std.proofs.Common.{◌≡◌, Some, length, refl, sym, ◌∙◌}
use Rattle.std.specs.List.{slice_get}
use Rattle.std.proofs.lemmas.Option.{slice_get_read}
use Rattle.run_audit.proofs.ProgressLemmas.{waits_no_more, waits_not, waits_so}
use Rattle.run_audit.proofs.free.is_waiting.Goals as goal

pub returns-then-not-runs : goal.returns-then-not-runs
returns-then-not-runs c =
    let there : slice_get c.args.replay.now.seats.items c.args.who ≡ Some c.index.result.now =
    slice_get_read c.args.replay.now.seats.items (length c.args.replay.now.seats.items) c.args.who c.index.result.now refl c.requires.seat c.index.ensures in
    waits_not c.args.turns c.args.replay.now c.args.list.now c.args.who c.index.result.now there (sym c.runs.ensures ∙ c.if-not-runs.true)

pub returns-then-progress-turns : goal.returns-then-progress-turns
returns-then-progress-turns c =
    let there : slice_get c.args.replay.now.seats.items c.args.who ≡ Some c.index.result.now =
    slice_get_read c.args.replay.now.seats.items (length c.args.replay.now.seats.items) c.args.who c.index.result.now refl c.requires.seat c.index.ensures in
    waits_no_more c.args.turns c.args.replay.now c.args.list.now c.args.who c.index.result.now there c.progress_of-progress.result c.progress_of-progress.ensures c.if-progress-turns.true

pub returns : goal.returns
returns c =
    let there : slice_get c.args.replay.now.seats.items c.args.who ≡ Some c.index.result.now =
    slice_get_read c.args.replay.now.seats.items (length c.args.replay.now.seats.items) c.args.who c.index.result.now refl c.requires.seat c.index.ensures in
    waits_so c.args.turns c.args.replay.now c.args.list.now c.args.who c.index.result.now there c.progress_of-progress.result c.progress_of-progress.ensures (sym c.runs.ensures ∙ c.if-not-runs.false) c.if-progress-turns.false
