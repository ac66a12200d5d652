use Rattle.std.proofs.Common.{refl}
use Rattle.world_rounds.proofs.Together.{world_at}
use Rattle.world_rounds.proofs.world.World.from_parts.Goals as goal

pub returns-clause-world : goal.returns-clause-world
returns-clause-world g c table rows situation are =
    world_at g.D.Disk.view table rows c.args.parts situation _ are refl c.join-members.ensures.parts c.join-members.ensures.idle refl refl
