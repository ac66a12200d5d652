use Rattle.launch_machine.proofs.StartLemmas.{cursor_rises}
use Rattle.launch_machine.proofs.laws.cursors_rise.Goals as goal

pub returns : goal.returns
returns c = cursor_rises
