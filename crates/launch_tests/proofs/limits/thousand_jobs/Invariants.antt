use Rattle.std.proofs.Common.{◌≡◌, false, map, length}
use Rattle.std.specs.Prelude.{string_bytes}
use Rattle.due_set.specs.Table.{is_period_name, job_of}
use Rattle.launch_tests.proofs.LimitLemmas.{AreGrowing}
use Rattle.launch_tests.proofs.limits.thousand_jobs.Given as goal

abbrev pub invariant-loop-place : goal.invariant-loop-place
invariant-loop-place l = AreGrowing (map job_of l.jobs.items) l.place × (length (string_bytes l.name) ≡ l.place) × (is_period_name (string_bytes l.name) ≡ false)
