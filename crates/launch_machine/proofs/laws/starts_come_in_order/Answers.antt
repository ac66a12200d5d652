use Rattle.launch_machine.proofs.StartLemmas.{starts_rise}
use Rattle.launch_machine.proofs.UnderLemmas.{starts_prefix, starts_under}
use Rattle.launch_machine.proofs.laws.starts_come_in_order.Goals as goal

pub returns-clause-rise : goal.returns-clause-rise
returns-clause-rise c = starts_rise

pub returns-clause-front : goal.returns-clause-front
returns-clause-front c = starts_under

pub returns-clause-prefix : goal.returns-clause-prefix
returns-clause-prefix c = starts_prefix
