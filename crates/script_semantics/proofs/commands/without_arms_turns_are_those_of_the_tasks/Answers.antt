use Rattle.script_semantics.proofs.ArmsLemmas.{performs_unarmed, unarmed_after, unarmed_performs}
use Rattle.script_semantics.proofs.commands.without_arms_turns_are_those_of_the_tasks.Goals as goal

pub returns-clause-plain : goal.returns-clause-plain
returns-clause-plain c = unarmed_performs

pub returns-clause-by_arms : goal.returns-clause-by_arms
returns-clause-by_arms c = performs_unarmed

pub returns-clause-unarmed : goal.returns-clause-unarmed
returns-clause-unarmed c = unarmed_after
