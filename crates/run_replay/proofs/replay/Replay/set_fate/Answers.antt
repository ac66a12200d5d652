use Rattle.std.proofs.Common.{◌≡◌, Some, length, refl, ap}
use Rattle.std.specs.List.{slice_get}
use Rattle.std.proofs.lemmas.Option.{slice_get_read}
use Rattle.script_semantics.specs.Commands.{fate_of}
use Rattle.run_replay.proofs.SettingLemmas.{fate_set}
use Rattle.run_replay.proofs.replay.Replay.set_fate.Goals as goal

pub returns-clause-sets : goal.returns-clause-sets
returns-clause-sets c =
    let there : slice_get c.args.self.now.settings.items c.args.who ≡ Some c.index_mut.result.now =
    slice_get_read c.args.self.now.settings.items (length c.args.self.now.settings.items) c.args.who c.index_mut.result.now refl c.requires.member c.index_mut.ensures.value in
    fate_set c.args.self.now _ c.args.who (fate_of c.args.word) c.index_mut.result.now _ refl refl refl refl there refl
    (ap (λ becomes. record c.index_mut.result.now { fate = becomes }) c.fate_of.ensures)
