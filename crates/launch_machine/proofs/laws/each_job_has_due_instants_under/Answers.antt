use Rattle.launch_machine.proofs.DueListLemmas.{due_instants}
use Rattle.launch_machine.proofs.laws.each_job_has_due_instants_under.Goals as goal

pub returns : goal.returns
returns c = due_instants
