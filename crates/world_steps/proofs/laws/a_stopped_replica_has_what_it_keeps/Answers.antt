use Rattle.world_steps.proofs.Stopped.{stands_stopped}
use Rattle.world_steps.proofs.laws.a_stopped_replica_has_what_it_keeps.Goals as goal

pub returns : goal.returns
returns c = stands_stopped
