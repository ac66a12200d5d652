use Rattle.world_rounds.proofs.Ended.{few_members, nodes_left}
use Rattle.world_rounds.proofs.world.World.into_book.Goals as goal

pub returns-clause-nodes : goal.returns-clause-nodes
returns-clause-nodes g c table rows situation is =
    nodes_left g.D.Disk.view table rows c.args.self situation c.take-nodes.result.0.items is
    ((c.take-nodes.ensures.parts (few_members g.D.Disk.view table rows c.args.self situation is)).nodes_are)
