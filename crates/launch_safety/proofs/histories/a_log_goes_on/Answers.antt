use Rattle.launch_safety.proofs.Whole.{cut_goes_on}
use Rattle.launch_safety.proofs.histories.a_log_goes_on.Goals as goal

pub returns : goal.returns
returns c = cut_goes_on
