use Rattle.std.proofs.Common.{◌≡◌, Some, length, reverse, refl, ap, ◌∙◌}
use Rattle.std.specs.List.{slice_get}
use Rattle.std.proofs.lemmas.Option.{slice_get_read}
use Rattle.run_replay.proofs.SettingLemmas.{mail_put}
use Rattle.run_replay.proofs.replay.Replay.reverse_letters.Goals as goal

pub returns-clause-sets : goal.returns-clause-sets
returns-clause-sets c =
    let there : slice_get c.args.self.now.settings.items c.args.who ≡ Some c.index_mut.result.now =
    slice_get_read c.args.self.now.settings.items (length c.args.self.now.settings.items) c.args.who c.index_mut.result.now refl c.requires.member c.index_mut.ensures.value in
    mail_put c.args.self.now _ c.args.who (λ posted mail. reverse mail) c.index_mut.result.now _ refl refl refl refl there refl refl
    (c.make_contiguous.ensures.writes_back c.reverse.new.self (c.reverse.ensures.len ∙ c.make_contiguous.ensures.len) ∙ c.reverse.ensures.after ∙ ap reverse c.make_contiguous.ensures.value)
