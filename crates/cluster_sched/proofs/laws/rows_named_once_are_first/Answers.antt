use Rattle.cluster_sched.proofs.HeldLemmas.{AreNamedOnce-first}
use Rattle.cluster_sched.proofs.laws.rows_named_once_are_first.Goals as goal

pub returns : goal.returns
returns c = AreNamedOnce-first
