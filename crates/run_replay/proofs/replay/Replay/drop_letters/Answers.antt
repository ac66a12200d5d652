use Rattle.std.proofs.Common.{◌≡◌, Some, length, refl}
use Rattle.std.specs.List.{slice_get}
use Rattle.std.proofs.lemmas.Option.{slice_get_read}
use Rattle.script_semantics.specs.Commands.{from_others}
use Rattle.run_replay.proofs.SettingLemmas.{mail_put}
use Rattle.run_replay.proofs.replay.Replay.drop_letters.Goals as goal

pub returns-clause-sets : goal.returns-clause-sets
returns-clause-sets c =
    let there : slice_get c.args.self.now.settings.items c.args.to ≡ Some c.index_mut.result.now =
    slice_get_read c.args.self.now.settings.items (length c.args.self.now.settings.items) c.args.to c.index_mut.result.now refl c.requires.member c.index_mut.ensures.value in
    mail_put c.args.self.now _ c.args.to (λ posted mail. from_others posted c.args.from mail) c.index_mut.result.now _ refl refl refl refl there refl refl c.drop_from.ensures
