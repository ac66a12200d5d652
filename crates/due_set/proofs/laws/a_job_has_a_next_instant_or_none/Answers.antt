use Rattle.due_set.proofs.ExistLemmas.{next_or_none}
use Rattle.due_set.proofs.laws.a_job_has_a_next_instant_or_none.Goals as goal

pub returns : goal.returns
returns c = next_or_none
