use Rattle.script_semantics.proofs.SeenLemmas.{still_by_arm, still_fate, still_first, still_runs, still_waits}
use Rattle.script_semantics.proofs.free.what_a_replica_saw_last_still_stands.Goals as goal

pub returns-clause-runs : goal.returns-clause-runs
returns-clause-runs c = still_runs

pub returns-clause-heard : goal.returns-clause-heard
returns-clause-heard c = λ members window at turns who number situation rows. still_first members window at turns who situation rows number

pub returns-clause-answered : goal.returns-clause-answered
returns-clause-answered c = still_waits

pub returns-clause-fate : goal.returns-clause-fate
returns-clause-fate c = still_fate

pub returns-clause-by_arm : goal.returns-clause-by_arm
returns-clause-by_arm c = still_by_arm
