use Rattle.cluster_sched.proofs.HeldLemmas.{Answers-first}
use Rattle.cluster_sched.proofs.laws.answers_stay.Goals as goal

pub returns-clause-first : goal.returns-clause-first
returns-clause-first c = Answers-first
