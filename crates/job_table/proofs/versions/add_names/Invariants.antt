use Rattle.std.proofs.Common.{◌≡◌, map, take}
use Rattle.std.specs.List.{fold}
use Rattle.due_set.specs.Table.{own_name}
use Rattle.job_table.specs.Versions.{jobs_under, with_name}
use Rattle.job_table.proofs.VersionJobLemmas.{names_of_all}
use Rattle.job_table.proofs.versions.add_names.Given as goal

abbrev pub invariant-loop-jobs : goal.invariant-loop-jobs
invariant-loop-jobs l = l.first ≡ jobs_under (fold with_name (map own_name l.initial.first) (names_of_all (take l.jobs-index l.later))) l.initial.first
