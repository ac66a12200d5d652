use Rattle.cluster_sched.proofs.FateLemmas.{Calls-by_parts}
use Rattle.cluster_sched.proofs.laws.calls_go_by_their_fates.Goals as goal

pub returns : goal.returns
returns c = Calls-by_parts
