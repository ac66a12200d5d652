use Rattle.std.proofs.Common.{[], refl, ap}
use Rattle.script_semantics.specs.Situation.{is_cut}
use Rattle.world_rounds.proofs.Setting.{cuts_set}
use Rattle.world_rounds.proofs.world.World.heal.Goals as goal

pub returns-clause-sets : goal.returns-clause-sets
returns-clause-sets g c = cuts_set g.D.Disk.view c.args.self.now _ (λ pairs. []) refl refl refl (λ pairs same from to. ap (is_cut from to) c.clear.ensures.items)
