use Rattle.std.proofs.Common.{refl, subst}
use Rattle.world_rounds.proofs.ClearLemmas.{cleared_held, world_cleared}
use Rattle.world_rounds.specs.Cleared.{AreCleared}
use Rattle.world_rounds.proofs.world.World.end_faults.Goals as goal

pub returns-clause-sets : goal.returns-clause-sets
returns-clause-sets g c =
    let all : AreCleared c.args.self.now.members.items c.clear_all.new.members = subst (λ items. AreCleared items c.clear_all.new.members) c.deref_mut.ensures.value c.clear_all.ensures in
    world_cleared g.D.Disk.view c.args.self.now _ refl refl c.clear.ensures.items (cleared_held c.args.self.now c.clear_all.new.members all)
