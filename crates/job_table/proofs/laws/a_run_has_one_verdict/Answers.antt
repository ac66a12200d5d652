use Rattle.job_table.proofs.SomeLemmas.{some_verdict}
use Rattle.job_table.proofs.UniqueLemmas.{one_table, one_refused_run, not_refused_run}
use Rattle.job_table.proofs.laws.a_run_has_one_verdict.Goals as goal

pub returns-clause-some : goal.returns-clause-some
returns-clause-some c = some_verdict

pub returns-clause-one_table : goal.returns-clause-one_table
returns-clause-one_table c = one_table

pub returns-clause-one_refusal : goal.returns-clause-one_refusal
returns-clause-one_refusal c = one_refused_run

pub returns-clause-not_both : goal.returns-clause-not_both
returns-clause-not_both c = not_refused_run
