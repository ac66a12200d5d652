use Rattle.step_spec.proofs.OutLemmas.{reaches_only, reaches_others, reaches_outside}
use Rattle.step_spec.proofs.laws.a_message_reaches_whom_it_is_for.Goals as goal

pub returns-clause-only : goal.returns-clause-only
returns-clause-only c = reaches_only

pub returns-clause-others : goal.returns-clause-others
returns-clause-others c = reaches_others

pub returns-clause-outside : goal.returns-clause-outside
returns-clause-outside c = reaches_outside
