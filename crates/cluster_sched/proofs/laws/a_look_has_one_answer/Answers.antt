use Rattle.cluster_sched.proofs.HeldLemmas.{IsLookedUp-same}
use Rattle.cluster_sched.proofs.laws.a_look_has_one_answer.Goals as goal

pub returns : goal.returns
returns c = IsLookedUp-same
