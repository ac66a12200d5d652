use Rattle.due_set.proofs.CountLemmas.{IsNextDue-same}
use Rattle.due_set.proofs.laws.a_job_has_one_next_instant.Goals as goal

pub returns : goal.returns
returns c = IsNextDue-same
