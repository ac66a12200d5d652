use Rattle.cluster_sched.proofs.HeldLemmas.{MayGoLate-known}
use Rattle.cluster_sched.proofs.laws.late_rows_stay.Goals as goal

pub returns-clause-known : goal.returns-clause-known
returns-clause-known c held held' late late' row first result = MayGoLate-known held held' late late' row first result
