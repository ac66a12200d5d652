use Rattle.std.proofs.Common.{◌≡◌, Some, length, refl, ap}
use Rattle.std.specs.List.{slice_get}
use Rattle.std.proofs.lemmas.Option.{slice_get_read}
use Rattle.script_semantics.specs.Commands.{fate_of}
use Rattle.world_rounds.proofs.Setting.{fate_set}
use Rattle.world_rounds.proofs.world.World.set_fate.Goals as goal

pub returns-clause-sets : goal.returns-clause-sets
returns-clause-sets g c =
    let there : slice_get c.args.self.now.members.items c.args.who ≡ Some c.index_mut.result.now =
    slice_get_read c.args.self.now.members.items (length c.args.self.now.members.items) c.args.who c.index_mut.result.now refl c.requires.member c.index_mut.ensures.value in
    fate_set g.D.Disk.view c.args.self.now _ c.args.who (fate_of c.args.word) c.index_mut.result.now _ refl refl refl there refl refl refl
    (ap (λ becomes. record c.index_mut.result.now.mail { fate = becomes }) c.fate_of.ensures)
