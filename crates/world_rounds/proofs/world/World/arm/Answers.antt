use Rattle.std.proofs.Common.{◌≡◌, Some, length, refl}
use Rattle.std.specs.List.{slice_get}
use Rattle.std.proofs.lemmas.Option.{slice_get_read}
use Rattle.world_rounds.proofs.Setting.{arm_set, put_back}
use Rattle.world_rounds.proofs.world.World.arm.Goals as goal

pub returns-then-mail-clause-sets : goal.returns-then-mail-clause-sets
returns-then-mail-clause-sets g c =
    let there : slice_get c.args.self.now.members.items c.args.who ≡ Some c.index_mut.result.now =
    slice_get_read c.args.self.now.members.items (length c.args.self.now.members.items) c.args.who c.index_mut.result.now refl c.requires.member c.index_mut.ensures.value in
    arm_set g.D.Disk.view c.args.self.now _ c.args.who c.args.pass c.args.image c.index_mut.result.now _ refl refl refl there c.if-mail.true refl refl refl refl

pub returns-else-mail-clause-sets : goal.returns-else-mail-clause-sets
returns-else-mail-clause-sets g c =
    let there : slice_get c.args.self.now.members.items c.args.who ≡ Some c.index_mut.result.now =
    slice_get_read c.args.self.now.members.items (length c.args.self.now.members.items) c.args.who c.index_mut.result.now refl c.requires.member c.index_mut.ensures.value in
    λ table rows situation is.
    put_back g.D.Disk.view c.args.self.now _ c.args.who c.args.pass c.args.image c.index_mut.result.now there c.if-mail.false refl refl refl refl table rows situation is
