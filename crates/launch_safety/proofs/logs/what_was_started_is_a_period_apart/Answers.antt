use Rattle.launch_safety.proofs.PeriodLemmas.{started_apart}
use Rattle.launch_safety.proofs.logs.what_was_started_is_a_period_apart.Goals as goal

pub returns : goal.returns
returns c = started_apart
