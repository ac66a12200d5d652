use Rattle.script_semantics.proofs.LeftLemmas.{has_turn, no_further}
use Rattle.script_semantics.proofs.commands.a_replica_that_stops_has_no_further_turn.Goals as goal

pub returns-clause-none : goal.returns-clause-none
returns-clause-none c = no_further

pub returns-clause-others : goal.returns-clause-others
returns-clause-others c = has_turn
