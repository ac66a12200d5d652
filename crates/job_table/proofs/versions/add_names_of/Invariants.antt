use Rattle.std.proofs.Common.{◌≡◌, map, take}
use Rattle.std.specs.List.{fold}
use Rattle.due_set.specs.Table.{own_name}
use Rattle.job_table.specs.Versions.{jobs_under, with_name}
use Rattle.job_table.proofs.versions.add_names_of.Given as goal

abbrev pub invariant-loop-place : goal.invariant-loop-place
invariant-loop-place l = l.first ≡ jobs_under (fold with_name (map own_name l.initial.first) (take l.place (map own_name l.jobs))) l.initial.first
