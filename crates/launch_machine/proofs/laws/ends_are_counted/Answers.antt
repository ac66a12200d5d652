use Rattle.launch_machine.proofs.EndLemmas.{launches_counted, voids_counted}
use Rattle.launch_machine.proofs.laws.ends_are_counted.Goals as goal

pub returns-clause-launched : goal.returns-clause-launched
returns-clause-launched c = launches_counted

pub returns-clause-voided : goal.returns-clause-voided
returns-clause-voided c = voids_counted
