use Rattle.world_law.proofs.Steps.{step_is_turn}
use Rattle.world_law.proofs.laws.a_step_is_the_next_turn.Goals as goal

pub returns : goal.returns
returns c = step_is_turn
