use Rattle.std.proofs.Common.{◌≡◌, Some, Contains, length, map, refl, subst}
use Rattle.std.specs.List.{slice_get}
use Rattle.std.proofs.lemmas.Option.{slice_get_read}
use Rattle.script_semantics.proofs.MailLemmas.{no_more}
use Rattle.script_semantics.specs.Commands.{from_others}
use Rattle.world_law.specs.Book.{posted_as}
use Rattle.world_rounds.proofs.Waiting.{mail_put}
use Rattle.world_rounds.proofs.world.World.drop_letters.Goals as goal

pub returns-clause-sets : goal.returns-clause-sets
returns-clause-sets g c =
    let there : slice_get c.args.self.now.members.items c.args.to ≡ Some c.index_mut.result.now =
    slice_get_read c.args.self.now.members.items (length c.args.self.now.members.items) c.args.to c.index_mut.result.now refl c.requires.member c.index_mut.ensures.value in
    mail_put g.D.Disk.view c.args.self.now _ c.args.to (λ posted mail. from_others posted c.args.from mail) c.index_mut.result.now _ refl refl refl there refl refl refl refl refl refl refl refl c.drop_from.ensures
    (λ sent number has. sent number (no_more (map posted_as c.args.self.now.book.letters) c.args.from c.index_mut.result.now.mail.letters.items number (subst (λ items. Contains items number) c.drop_from.ensures has)))
