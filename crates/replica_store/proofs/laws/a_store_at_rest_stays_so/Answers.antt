use Rattle.replica_store.proofs.RestLemmas.{rests_still}
use Rattle.replica_store.proofs.laws.a_store_at_rest_stays_so.Goals as goal

pub returns : goal.returns
returns g c old new store same none still rests = rests_still g.D.Disk.view old new store same none still.0 rests
