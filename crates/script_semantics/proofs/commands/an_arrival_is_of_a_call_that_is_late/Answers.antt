use Rattle.script_semantics.proofs.MailLemmas.{arrives, no_arrival}
use Rattle.script_semantics.proofs.commands.an_arrival_is_of_a_call_that_is_late.Goals as goal

pub returns-clause-arrives : goal.returns-clause-arrives
returns-clause-arrives c = arrives

pub returns-clause-none : goal.returns-clause-none
returns-clause-none c = no_arrival
