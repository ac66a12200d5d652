use Rattle.replica_store.proofs.SaveLemmas.{rests_recoverable}
use Rattle.replica_store.proofs.laws.a_store_at_rest_is_recoverable.Goals as goal

pub returns : goal.returns
returns g c disk store kept honest rests keeps = rests_recoverable g.D.Disk.view disk store rests kept keeps honest
