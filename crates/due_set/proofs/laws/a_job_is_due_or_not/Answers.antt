use Rattle.due_set.proofs.ExistLemmas.{due_or_not}
use Rattle.due_set.proofs.laws.a_job_is_due_or_not.Goals as goal

pub returns : goal.returns
returns c = due_or_not
