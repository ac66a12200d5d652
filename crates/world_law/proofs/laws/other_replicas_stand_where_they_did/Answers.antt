use Rattle.world_law.proofs.Others.{all_stand, all_stopped, others_stand, others_stopped}
use Rattle.world_law.proofs.laws.other_replicas_stand_where_they_did.Goals as goal

pub returns-clause-others : goal.returns-clause-others
returns-clause-others c = others_stand

pub returns-clause-arrival : goal.returns-clause-arrival
returns-clause-arrival c = all_stand

pub returns-clause-stopped : goal.returns-clause-stopped
returns-clause-stopped c = others_stopped

pub returns-clause-stopped_arrival : goal.returns-clause-stopped_arrival
returns-clause-stopped_arrival c = all_stopped
