use Rattle.launch_safety.proofs.InTime.{in_time}
use Rattle.launch_safety.proofs.PartLemmas.{ended_held}
use Rattle.launch_safety.proofs.histories.a_launch_may_end_in_time.Goals as goal

pub returns-clause-some : goal.returns-clause-some
returns-clause-some c = in_time

pub returns-clause-held : goal.returns-clause-held
returns-clause-held c = ended_held
