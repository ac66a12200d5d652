use Rattle.due_set.proofs.NamedLemmas.{due_says, opening_says}
use Rattle.due_set.proofs.sound.a_name_says_how_a_job_runs.Goals as goal

pub returns-clause-by_period : goal.returns-clause-by_period
returns-clause-by_period c = opening_says

pub returns-clause-by_instants : goal.returns-clause-by_instants
returns-clause-by_instants c = due_says
