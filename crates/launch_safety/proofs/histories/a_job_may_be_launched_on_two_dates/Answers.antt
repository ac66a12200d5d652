use Rattle.launch_safety.proofs.Dates.{two_dates}
use Rattle.launch_safety.proofs.PartLemmas.{dates_apart}
use Rattle.launch_safety.proofs.histories.a_job_may_be_launched_on_two_dates.Goals as goal

pub returns-clause-some : goal.returns-clause-some
returns-clause-some c = two_dates

pub returns-clause-apart : goal.returns-clause-apart
returns-clause-apart c = dates_apart
