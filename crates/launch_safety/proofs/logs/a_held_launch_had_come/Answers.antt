use Rattle.launch_safety.proofs.FitLemmas.{held_called}
use Rattle.launch_safety.proofs.logs.a_held_launch_had_come.Goals as goal

pub returns : goal.returns
returns c = held_called
