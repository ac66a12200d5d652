use Rattle.std.proofs.Common.{◌≡◌, ◌++◌, List, ℕ, Some, Contains, length, map, refl, ap, ◌∙◌, subst}
use Rattle.std.specs.List.{slice_get}
use Rattle.std.proofs.lemmas.Option.{slice_get_read}
use Rattle.script_semantics.specs.Commands.{each_once, from_one}
use Rattle.world_law.specs.Book.{posted_as}
use Rattle.world_rounds.proofs.Repeats.{repeated_from}
use Rattle.world_rounds.proofs.Waiting.{mail_put}
use Rattle.world_rounds.proofs.world.World.repeat_letters.Goals as goal

pub returns-clause-sets : goal.returns-clause-sets
returns-clause-sets g c =
    let posted = map posted_as c.args.self.now.book.letters in
    let there : slice_get c.args.self.now.members.items c.args.to ≡ Some c.index_mut.result.now =
    slice_get_read c.args.self.now.members.items (length c.args.self.now.members.items) c.args.to c.index_mut.result.now refl c.requires.member c.index_mut.ensures.value in
    let twice : List ℕ = c.index_mut.result.now.mail.letters.items ++ each_once (from_one posted c.args.from c.index_mut.result.now.mail.letters.items) in
    let once = c.as_slice.ensures.keys ∙ c.in_ok-once.ensures in
    let letters : c.add_all.new.mail.items ≡ twice =
    c.in_ok-add_all.ensures ∙ ap (λ more. c.index_mut.result.now.mail.letters.items ++ more) once in
    mail_put g.D.Disk.view c.args.self.now _ c.args.to (λ posted mail. mail ++ each_once (from_one posted c.args.from mail)) c.index_mut.result.now _ refl refl refl there refl refl refl refl refl refl refl refl letters
    (λ sent number has. sent number (repeated_from posted c.args.from c.index_mut.result.now.mail.letters.items number (subst (λ items. Contains items number) letters has)))
