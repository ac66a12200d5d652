use Rattle.launch_safety.proofs.FitLemmas.{held_started}
use Rattle.launch_safety.proofs.logs.a_held_launch_was_started.Goals as goal

pub returns : goal.returns
returns c = held_started
