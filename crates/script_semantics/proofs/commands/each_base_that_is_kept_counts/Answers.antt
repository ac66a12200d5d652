use Rattle.script_semantics.proofs.StopLemmas.{bases_of_loss, bases_of_none, bases_of_step, bases_of_stop, other_bases}
use Rattle.script_semantics.proofs.commands.each_base_that_is_kept_counts.Goals as goal

pub returns-clause-step : goal.returns-clause-step
returns-clause-step c = bases_of_step

pub returns-clause-kept : goal.returns-clause-kept
returns-clause-kept c = bases_of_stop

pub returns-clause-lost : goal.returns-clause-lost
returns-clause-lost c = bases_of_loss

pub returns-clause-nothing : goal.returns-clause-nothing
returns-clause-nothing c = bases_of_none

pub returns-clause-others : goal.returns-clause-others
returns-clause-others c = other_bases
