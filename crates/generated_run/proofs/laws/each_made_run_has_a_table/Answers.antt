use Rattle.generated_run.proofs.JobLemmas.{table_exists}
use Rattle.generated_run.proofs.laws.each_made_run_has_a_table.Goals as goal

pub returns : goal.returns
returns c = table_exists
