use Rattle.launch_safety.proofs.PeriodLemmas.{opens_after_each}
use Rattle.launch_safety.proofs.logs.a_job_opens_a_period_after_each_launch.Goals as goal

pub returns : goal.returns
returns c = opens_after_each
