use Rattle.script_semantics.proofs.TurnLemmas.{as_many}
use Rattle.script_semantics.proofs.commands.each_task_has_a_turn.Goals as goal

-- src/laws.rt:18:1
pub returns : goal.returns
returns c = as_many
