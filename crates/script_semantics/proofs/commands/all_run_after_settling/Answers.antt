use Rattle.script_semantics.proofs.RunningLemmas.{all_settled}
use Rattle.script_semantics.proofs.commands.all_run_after_settling.Goals as goal

pub returns : goal.returns
returns c = all_settled
