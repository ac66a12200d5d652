use Rattle.run_outcome.proofs.SomeDate.{some_date}
use Rattle.run_outcome.proofs.dates.a_date_may_be_launched.Goals as goal

pub returns : goal.returns
returns c = some_date
