use Rattle.launch_safety.proofs.SomeAdoption.{log_adopts}
use Rattle.launch_safety.proofs.histories.a_legal_log_may_adopt_a_version.Goals as goal

pub returns : goal.returns
returns c = log_adopts
