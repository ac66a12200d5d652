use Rattle.due_set.proofs.ExistLemmas.{due_list}
use Rattle.due_set.proofs.laws.each_job_has_a_due_list.Goals as goal

pub returns : goal.returns
returns c = due_list
