use Rattle.world_law.proofs.Steps.{step_may_call}
use Rattle.world_law.proofs.laws.a_tick_may_be_called_for.Goals as goal

pub returns : goal.returns
returns c = step_may_call
