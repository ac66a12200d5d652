use Rattle.std.proofs.Common.{◌≡◌, Some, length, refl, sym, ◌∙◌, arith}
use Rattle.std.specs.List.{slice_get}
use Rattle.std.proofs.lemmas.Option.{slice_get_read}
use Rattle.run_replay.proofs.SettingLemmas.{arm_none, arm_set}
use Rattle.run_replay.proofs.replay.Replay.arm.Goals as goal

pub returns-then-runs-clause-sets : goal.returns-then-runs-clause-sets
returns-then-runs-clause-sets c =
    let ready = c.requires.ready.1 in
    let count = ready.is.seated.count in
    let total = ready.is.seated.set in
    let there : slice_get c.args.self.now.seats.items c.args.who ≡ Some c.index.result.now =
    slice_get_read c.args.self.now.seats.items (length c.args.self.now.seats.items) c.args.who c.index.result.now refl (omega (arith, c.requires.member, count)) c.index.ensures in
    let here : slice_get c.args.self.now.settings.items c.args.who ≡ Some c.index_mut.result.now =
    slice_get_read c.args.self.now.settings.items (length c.args.self.now.settings.items) c.args.who c.index_mut.result.now refl (omega (arith, c.requires.member, total)) c.index_mut.ensures.value in
    arm_set c.args.self.now _ c.args.who c.args.pass c.args.image c.index.result.now c.index_mut.result.now _ refl refl refl refl there (sym c.runs.ensures ∙ c.if-runs.true) here refl refl

pub returns-else-runs-clause-sets : goal.returns-else-runs-clause-sets
returns-else-runs-clause-sets c =
    let ready = c.requires.ready.1 in
    let count = ready.is.seated.count in
    let there : slice_get c.args.self.now.seats.items c.args.who ≡ Some c.index.result.now =
    slice_get_read c.args.self.now.seats.items (length c.args.self.now.seats.items) c.args.who c.index.result.now refl (omega (arith, c.requires.member, count)) c.index.ensures in
    arm_none c.args.self.now c.args.who c.args.pass c.args.image c.index.result.now there (sym c.runs.ensures ∙ c.if-runs.false)
