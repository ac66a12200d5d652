use Rattle.run_outcome.proofs.WholeDates.{each_date}
use Rattle.run_outcome.proofs.dates.a_date_is_launched_where_a_job_may_open.Goals as goal

pub returns : goal.returns
returns c = each_date
