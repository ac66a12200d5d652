use Rattle.synchronous_rounds.specs.Cluster.{cluster_round}
use Rattle.synchronous_rounds.proofs.FreeLemmas.{free_next}
use Rattle.synchronous_rounds.proofs.NearLemmas.{begun_nearer}
use Rattle.synchronous_rounds.proofs.leader.a_free_leader_begins.Goals as goal

pub returns-clause-begins : goal.returns-clause-begins
returns-clause-begins c = free_next

pub returns-clause-nearer : goal.returns-clause-nearer
returns-clause-nearer c = λ members leader best at now advice answers cluster free advised answered.
    begun_nearer members leader best at now advice cluster (cluster_round members now advice answers cluster) free answered
    (free_next members leader best at now advice answers cluster free advised)
