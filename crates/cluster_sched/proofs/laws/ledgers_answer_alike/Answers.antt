use Rattle.cluster_sched.proofs.FateLemmas.{LooksUp-same, CreatesRow-same, CallsByName-same, Arrives-same}
use Rattle.cluster_sched.proofs.laws.ledgers_answer_alike.Goals as goal

pub returns-clause-looks : goal.returns-clause-looks
returns-clause-looks c = LooksUp-same

pub returns-clause-creations : goal.returns-clause-creations
returns-clause-creations c = CreatesRow-same

pub returns-clause-calls : goal.returns-clause-calls
returns-clause-calls c = CallsByName-same

pub returns-clause-arrivals : goal.returns-clause-arrivals
returns-clause-arrivals c = Arrives-same
