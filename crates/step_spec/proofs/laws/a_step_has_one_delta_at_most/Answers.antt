use Rattle.step_spec.proofs.DeltaLemmas.{step_changes}
use Rattle.step_spec.proofs.laws.a_step_has_one_delta_at_most.Goals as goal

pub returns : goal.returns
returns c = step_changes
