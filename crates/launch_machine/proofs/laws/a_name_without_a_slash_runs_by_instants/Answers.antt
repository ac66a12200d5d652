use Rattle.launch_machine.proofs.UnderLemmas.{runs_by_instants}
use Rattle.launch_machine.proofs.laws.a_name_without_a_slash_runs_by_instants.Goals as goal

pub returns : goal.returns
returns c = runs_by_instants
