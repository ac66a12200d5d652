use Rattle.due_set.proofs.SoundLemmas.{one_job_of_name}
use Rattle.due_set.proofs.sound.a_name_says_one_job.Goals as goal

pub returns : goal.returns
returns c = one_job_of_name
