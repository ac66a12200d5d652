use Rattle.launch_safety.proofs.FitLemmas.{front_of_fits, starts_of_fits}
use Rattle.launch_safety.proofs.logs.no_due_instant_is_passed_over.Goals as goal

pub returns-clause-rise : goal.returns-clause-rise
returns-clause-rise c = starts_of_fits

pub returns-clause-front : goal.returns-clause-front
returns-clause-front c = front_of_fits
