use Rattle.script_semantics.proofs.StopLemmas.{comes_unarmed, comes_whole, comes_without_change, other_arms, stops_there}
use Rattle.script_semantics.proofs.commands.a_disk_stops_where_too_few_calls_are_left.Goals as goal

pub returns-clause-unarmed : goal.returns-clause-unarmed
returns-clause-unarmed c = comes_unarmed

pub returns-clause-nothing : goal.returns-clause-nothing
returns-clause-nothing c = comes_without_change

pub returns-clause-saves : goal.returns-clause-saves
returns-clause-saves c = comes_whole

pub returns-clause-stops : goal.returns-clause-stops
returns-clause-stops c = stops_there

pub returns-clause-others : goal.returns-clause-others
returns-clause-others c = other_arms
