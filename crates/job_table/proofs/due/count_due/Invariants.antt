use Rattle.std.proofs.Common.{◌≤◌}
use Rattle.job_table.proofs.DueCountLemmas.{CountsVersions}
use Rattle.job_table.proofs.due.count_due.Given as goal

abbrev pub invariant-loop-version : goal.invariant-loop-version
invariant-loop-version l = record { counted : CountsVersions l.table l.version l.total; few : l.total ≤ 20_000 }
