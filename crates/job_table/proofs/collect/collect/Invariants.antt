use Rattle.job_table.proofs.RunLemmas.{SoFarIn}
use Rattle.job_table.proofs.collect.collect.Given as goal

abbrev pub invariant-loop-place : goal.invariant-loop-place
invariant-loop-place l = SoFarIn l.run l.version l.place l.jobs
