use Rattle.launch_safety.proofs.PeriodLemmas.{latest_same}
use Rattle.launch_safety.proofs.logs.a_job_has_one_latest_launch.Goals as goal

pub returns : goal.returns
returns c = latest_same
