use Rattle.launch_safety.proofs.FitLemmas.{apart_of_fits}
use Rattle.launch_safety.proofs.logs.launches_are_a_period_apart.Goals as goal

pub returns : goal.returns
returns c = apart_of_fits
