use Rattle.replica_node.proofs.RestLemmas.{leads_to_one}
use Rattle.replica_node.proofs.laws.a_step_leads_to_one_state.Goals as goal

pub returns : goal.returns
returns c = leads_to_one
