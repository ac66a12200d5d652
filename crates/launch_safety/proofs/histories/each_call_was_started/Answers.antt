use Rattle.launch_safety.proofs.Whole.{held_backed, late_backed}
use Rattle.launch_safety.proofs.histories.each_call_was_started.Goals as goal

pub returns-clause-held : goal.returns-clause-held
returns-clause-held c = held_backed

pub returns-clause-late : goal.returns-clause-late
returns-clause-late c = late_backed
