use Rattle.launch_machine.proofs.ExistLemmas.{StartsOf-same, starts_of_exist}
use Rattle.launch_machine.proofs.laws.a_job_has_one_list_of_starts.Goals as goal

pub returns-clause-some : goal.returns-clause-some
returns-clause-some c = starts_of_exist

pub returns-clause-one : goal.returns-clause-one
returns-clause-one c = StartsOf-same
