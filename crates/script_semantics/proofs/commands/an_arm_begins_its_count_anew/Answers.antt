use Rattle.script_semantics.proofs.EndLemmas.{begins, begins_anew, not_begun, others_unarmed}
use Rattle.script_semantics.proofs.commands.an_arm_begins_its_count_anew.Goals as goal

pub returns-clause-armed : goal.returns-clause-armed
returns-clause-armed c = begins

pub returns-clause-anew : goal.returns-clause-anew
returns-clause-anew c = begins_anew

pub returns-clause-stopped : goal.returns-clause-stopped
returns-clause-stopped c = not_begun

pub returns-clause-others : goal.returns-clause-others
returns-clause-others c = others_unarmed
