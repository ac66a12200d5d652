use Rattle.settling.proofs.StandsLemmas.{situation_stands}
use Rattle.settling.proofs.rounds.a_situation_stands_for_one.Goals as goal

pub returns : goal.returns
returns c = situation_stands
