use Rattle.std.proofs.Common.{◌≢◌, ◌<◌, ℕ}
use Rattle.due_set.specs.Table.{job_name}
use Rattle.cluster_sched.proofs.name.job_named.Given as goal

abbrev pub invariant-loop-job : goal.invariant-loop-job
invariant-loop-job l = (k : ℕ) → k < l.job → job_name l.table k ≢ l.name
