use Rattle.launch_machine.proofs.MachineLemmas.{TakesStart-same}
use Rattle.launch_machine.proofs.laws.one_launch_may_be_started.Goals as goal

pub returns : goal.returns
returns c = TakesStart-same
