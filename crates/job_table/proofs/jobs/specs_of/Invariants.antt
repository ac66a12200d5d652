use Rattle.std.proofs.Common.{◌≡◌, map, take}
use Rattle.due_set.specs.Table.{job_of}
use Rattle.job_table.specs.Jobs.{entry_job}
use Rattle.job_table.proofs.jobs.specs_of.Given as goal

abbrev pub invariant-loop-place : goal.invariant-loop-place
invariant-loop-place l = map job_of l.specs.items ≡ map entry_job (take l.place l.timings.entries)
