use Rattle.launch_machine.proofs.ExistLemmas.{EndsOf-same, ends_of_exist}
use Rattle.launch_machine.proofs.laws.a_job_has_one_count_of_ends.Goals as goal

pub returns-clause-some : goal.returns-clause-some
returns-clause-some c = ends_of_exist

pub returns-clause-one : goal.returns-clause-one
returns-clause-one c = EndsOf-same
