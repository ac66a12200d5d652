use Rattle.script_semantics.proofs.EndLemmas.{settled_unarmed, stopped_part, walked_unarmed}
use Rattle.script_semantics.proofs.StopLemmas.{arms_of_stop, other_arms_by_stop}
use Rattle.script_semantics.proofs.commands.a_stop_ends_the_arm_of_its_replica_alone.Goals as goal

pub returns-clause-own : goal.returns-clause-own
returns-clause-own c = arms_of_stop

pub returns-clause-others : goal.returns-clause-others
returns-clause-others c = other_arms_by_stop

pub returns-clause-stopped : goal.returns-clause-stopped
returns-clause-stopped c = stopped_part

pub returns-clause-settled : goal.returns-clause-settled
returns-clause-settled c = settled_unarmed

pub returns-clause-walked : goal.returns-clause-walked
returns-clause-walked c = walked_unarmed
