use Rattle.std.proofs.Common.{refl}
use Rattle.world_rounds.proofs.Apart.{parts_at}
use Rattle.world_rounds.proofs.Ended.{few_members}
use Rattle.world_rounds.proofs.world.World.take_parts.Goals as goal

pub returns-clause-parts : goal.returns-clause-parts
returns-clause-parts g c table rows situation is =
    parts_at g.D.Disk.view table rows c.args.self situation _ is refl
    (c.take-nodes.ensures.parts (few_members g.D.Disk.view table rows c.args.self situation is)) refl refl

pub returns-clause-replicas : goal.returns-clause-replicas
returns-clause-replicas g c =
    let world = c.requires.world.1 in
    c.take-nodes.ensures.parts (few_members g.D.Disk.view c.requires.world.0 world.rows c.args.self world.situation world.is)

pub returns-clause-lists : goal.returns-clause-lists
returns-clause-lists g c = record { nodes = c.take-nodes.ensures.nodes_fit; mails = c.take-nodes.ensures.mails_fit }
