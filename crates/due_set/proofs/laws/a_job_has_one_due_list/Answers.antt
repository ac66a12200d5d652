use Rattle.due_set.proofs.TableLemmas.{IsJobDueList-same}
use Rattle.due_set.proofs.laws.a_job_has_one_due_list.Goals as goal

pub returns : goal.returns
returns c = IsJobDueList-same
