use Rattle.std.proofs.Common.{◌≡◌, Some, length, refl, ap}
use Rattle.std.specs.Int.{w64}
use Rattle.std.specs.List.{slice_get}
use Rattle.std.proofs.lemmas.Option.{slice_get_read}
use Rattle.std.proofs.lemmas.Int.{to_z-of_z}
use Rattle.run_replay.proofs.SettingLemmas.{skew_set}
use Rattle.run_replay.proofs.replay.Replay.skew.Goals as goal

pub returns-clause-sets : goal.returns-clause-sets
returns-clause-sets c =
    let there : slice_get c.args.self.now.settings.items c.args.who ≡ Some c.index_mut.result.now =
    slice_get_read c.args.self.now.settings.items (length c.args.self.now.settings.items) c.args.who c.index_mut.result.now refl c.requires.member c.index_mut.ensures.value in
    skew_set c.args.self.now _ c.args.who c.args.minutes c.index_mut.result.now _ refl refl refl refl there refl
    (ap (λ minutes. record c.index_mut.result.now { skew = minutes }) (to_z-of_z w64 c.args.minutes c.ranges.minutes))
