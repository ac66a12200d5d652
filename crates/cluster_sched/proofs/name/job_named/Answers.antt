use Rattle.std.proofs.Common.{rules, ◌≡◌, ◌<◌, ◌∙◌, length, sym, arith}
use Rattle.due_set.specs.Table.{job_name}
use Rattle.cluster_sched.proofs.NameLemmas.{job_name-injective}
use Rattle.cluster_sched.proofs.name.job_named.Goals as goal

pub returns-then-eq-clause-one : goal.returns-then-eq-clause-one
returns-then-eq-clause-one c =
    let jobs = c.args.table.now.jobs in
    let found : job_name c.args.table.now c.loop-job.job ≡ c.args.name.now = search rules in
    let below : c.loop-job.job < length jobs = omega (arith, c.loop-job-test.true, c.jobs-job-end.ensures.count) in
    λ other lt e. job_name-injective jobs other c.loop-job.job c.jobs-job-end.ensures.sound.distinct lt below (e ∙ sym found)
