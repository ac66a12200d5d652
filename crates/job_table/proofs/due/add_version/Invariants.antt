use Rattle.std.proofs.Common.{◌≡◌, ℕ, ◌+◌, ◌≤◌}
use Rattle.job_table.proofs.DueCountLemmas.{CountsFirst}
use Rattle.job_table.proofs.due.add_version.Given as goal

abbrev pub invariant-loop-job : goal.invariant-loop-job
invariant-loop-job l = record { count : ℕ; counted : CountsFirst l.table l.version l.job count; total_is : l.total ≡ l.before + count; few : l.total ≤ 20_000 }
