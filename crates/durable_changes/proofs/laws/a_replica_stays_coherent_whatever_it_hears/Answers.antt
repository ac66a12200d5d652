use Rattle.step_spec.proofs.Said.{stays_coherent}
use Rattle.durable_changes.proofs.laws.a_replica_stays_coherent_whatever_it_hears.Goals as goal

pub returns : goal.returns
returns c = stays_coherent
