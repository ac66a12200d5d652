use Rattle.world_law.proofs.Called.{carried}
use Rattle.world_law.proofs.laws.a_pending_call_is_carried_by_a_step.Goals as goal

pub returns : goal.returns
returns c = carried
