use Rattle.cluster_sched.proofs.FateLemmas.{LooksUp-some, CreatesRow-some, CallsByName-some, Arrives-some}
use Rattle.cluster_sched.proofs.laws.ledgers_always_answer.Goals as goal

pub returns-clause-looks : goal.returns-clause-looks
returns-clause-looks c = LooksUp-some

pub returns-clause-creations : goal.returns-clause-creations
returns-clause-creations c = CreatesRow-some

pub returns-clause-calls : goal.returns-clause-calls
returns-clause-calls c = CallsByName-some

pub returns-clause-arrivals : goal.returns-clause-arrivals
returns-clause-arrivals c = Arrives-some
