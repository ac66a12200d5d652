use Rattle.world_rounds.proofs.RoundsOfAll.{unarmed_goes}
use Rattle.world_rounds.proofs.world.World.round_by_arms.Goals as goal
use Rattle.replica_core.proofs.SteadyLemmas.{on_ok_so as on_ok}

pub returns-else-is_armed-clause-goes : goal.returns-else-is_armed-clause-goes
returns-else-is_armed-clause-goes g c =
    on_ok c.round_in_lanes.result _ _ (unarmed_goes g.D.Disk.view c.args.table.now c.args.self.now c.round_in_lanes.new.self c.args.at.0 (c.is_armed.ensures c.if-is_armed.false))
    c.round_in_lanes.ensures.goes
