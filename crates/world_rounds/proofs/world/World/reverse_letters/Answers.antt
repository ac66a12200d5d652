use Rattle.std.proofs.Common.{◌≡◌, Some, Contains, length, reverse, refl, ap, ◌∙◌, subst}
use Rattle.std.specs.List.{slice_get}
use Rattle.std.proofs.lemmas.Option.{slice_get_read}
use Rattle.world_rounds.proofs.Waiting.{in_reverse, mail_put}
use Rattle.world_rounds.proofs.world.World.reverse_letters.Goals as goal

pub returns-clause-sets : goal.returns-clause-sets
returns-clause-sets g c =
    let there : slice_get c.args.self.now.members.items c.args.who ≡ Some c.index_mut.result.now =
    slice_get_read c.args.self.now.members.items (length c.args.self.now.members.items) c.args.who c.index_mut.result.now refl c.requires.member c.index_mut.ensures.value in
    let letters : c.reverse.new.self ≡ reverse c.index_mut.result.now.mail.letters.items = c.reverse.ensures.after ∙ ap reverse c.make_contiguous.ensures.value in
    let back = c.make_contiguous.ensures.writes_back c.reverse.new.self (c.reverse.ensures.len ∙ c.make_contiguous.ensures.len) in
    mail_put g.D.Disk.view c.args.self.now _ c.args.who (λ posted mail. reverse mail) c.index_mut.result.now _ refl refl refl there refl refl refl refl refl refl refl refl (back ∙ letters)
    (λ sent number has. sent number (in_reverse c.index_mut.result.now.mail.letters.items number (subst (λ items. Contains items number) (back ∙ letters) has)))
