use Rattle.launch_safety.proofs.Whole.{waiting_held}
use Rattle.launch_safety.proofs.histories.an_answer_that_waits_is_held.Goals as goal

pub returns : goal.returns
returns c = waiting_held
