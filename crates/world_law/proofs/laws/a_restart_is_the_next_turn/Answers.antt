use Rattle.world_law.proofs.Stops.{restarts}
use Rattle.world_law.proofs.laws.a_restart_is_the_next_turn.Goals as goal

pub returns : goal.returns
returns c = restarts
