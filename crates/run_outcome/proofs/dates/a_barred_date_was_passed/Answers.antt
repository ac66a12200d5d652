use Rattle.run_outcome.proofs.Passed.{barred_passed}
use Rattle.run_outcome.proofs.dates.a_barred_date_was_passed.Goals as goal

pub returns : goal.returns
returns c = barred_passed
