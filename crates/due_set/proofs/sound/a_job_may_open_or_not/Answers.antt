use Rattle.due_set.proofs.OpenLemmas.{open_or_not}
use Rattle.due_set.proofs.sound.a_job_may_open_or_not.Goals as goal

pub returns : goal.returns
returns c = open_or_not
