use Rattle.launch_safety.proofs.FitLemmas.{held_once}
use Rattle.launch_safety.proofs.logs.a_launch_is_held_once.Goals as goal

pub returns : goal.returns
returns c = held_once
