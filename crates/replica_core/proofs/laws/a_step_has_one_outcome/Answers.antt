use Rattle.replica_core.proofs.OutcomeLemmas.{one_outcome}
use Rattle.replica_core.proofs.laws.a_step_has_one_outcome.Goals as goal

pub returns : goal.returns
returns c = one_outcome
