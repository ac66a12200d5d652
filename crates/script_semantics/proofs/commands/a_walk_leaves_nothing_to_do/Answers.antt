use Rattle.script_semantics.proofs.WalkLemmas.{settled, walked}
use Rattle.script_semantics.proofs.commands.a_walk_leaves_nothing_to_do.Goals as goal

pub returns-clause-settled : goal.returns-clause-settled
returns-clause-settled c = settled

pub returns-clause-walked : goal.returns-clause-walked
returns-clause-walked c = walked
