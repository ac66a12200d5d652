use Rattle.script_semantics.proofs.WalkLemmas.{no_round}
use Rattle.script_semantics.proofs.commands.a_quiet_situation_has_no_round.Goals as goal

pub returns : goal.returns
returns c = no_round
