use Rattle.std.proofs.Common.{◌≡◌, map, take}
use Rattle.due_set.specs.Table.{job_of, own_name}
use Rattle.job_table.specs.Versions.{jobs_under}
use Rattle.job_table.proofs.jobs.Jobs.specs_under.Given as goal

abbrev pub invariant-loop-place : goal.invariant-loop-place
invariant-loop-place l = map job_of l.specs.items ≡ jobs_under (take l.place (map own_name l.names)) l.self
