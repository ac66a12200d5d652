use Rattle.std.proofs.Common.{◌≡◌, Some, length, refl}
use Rattle.std.specs.List.{slice_get}
use Rattle.std.proofs.lemmas.Option.{slice_get_read}
use Rattle.run_audit.proofs.ProgressLemmas.{any_letter, sees_now}
use Rattle.run_audit.proofs.free.progress_now.Goals as goal

pub returns : goal.returns
returns c = λ table rows situation is.
    let set : slice_get c.args.replay.now.settings.items c.args.who ≡ Some c.index.result.now =
    slice_get_read c.args.replay.now.settings.items (length c.args.replay.now.settings.items) c.args.who c.index.result.now refl c.requires.setting c.index.ensures in
    let there : slice_get c.args.replay.now.seats.items c.args.who ≡ Some c.index-2.result.now =
    slice_get_read c.args.replay.now.seats.items (length c.args.replay.now.seats.items) c.args.who c.index-2.result.now refl c.requires.seat c.index-2.ensures in
    sees_now table rows c.args.replay.now situation c.args.who c.args.taken c.index-2.result.now c.index.result.now c.is_empty-waits.result c.leads-leads.result is there set
    (any_letter c.index.result.now.mail.items _ c.is_empty-waits.result c.index.result.now.mail.ok.0 c.is_empty-waits.ensures) c.leads-leads.ensures
