use Rattle.launch_safety.proofs.FitLemmas.{start_before_end}
use Rattle.launch_safety.proofs.logs.a_start_stands_before_its_end.Goals as goal

pub returns : goal.returns
returns c = start_before_end
