use Rattle.launch_safety.proofs.PeriodLemmas.{start_apart}
use Rattle.launch_safety.proofs.logs.a_start_comes_a_period_after_a_launch.Goals as goal

pub returns : goal.returns
returns c = start_apart
