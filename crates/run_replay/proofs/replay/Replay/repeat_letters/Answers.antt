use Rattle.std.proofs.Common.{◌≡◌, ◌++◌, Some, length, map, refl, ap, ◌∙◌}
use Rattle.std.specs.List.{slice_get}
use Rattle.std.proofs.lemmas.Option.{slice_get_read}
use Rattle.script_semantics.specs.Commands.{each_once, from_one}
use Rattle.world_law.specs.Book.{posted_as}
use Rattle.run_replay.proofs.SettingLemmas.{mail_put}
use Rattle.run_replay.proofs.replay.Replay.repeat_letters.Goals as goal

pub returns-clause-sets : goal.returns-clause-sets
returns-clause-sets c =
    let posted = map posted_as c.args.self.now.book.letters in
    let there : slice_get c.args.self.now.settings.items c.args.to ≡ Some c.index_mut.result.now =
    slice_get_read c.args.self.now.settings.items (length c.args.self.now.settings.items) c.args.to c.index_mut.result.now refl c.requires.member c.index_mut.ensures.value in
    let once = c.as_slice.ensures.keys ∙ c.in_ok-once.ensures in
    mail_put c.args.self.now _ c.args.to (λ posted mail. mail ++ each_once (from_one posted c.args.from mail)) c.index_mut.result.now _ refl refl refl refl there refl refl
    (c.in_ok-add_all.ensures ∙ ap (λ more. c.index_mut.result.now.mail.items ++ more) once)
