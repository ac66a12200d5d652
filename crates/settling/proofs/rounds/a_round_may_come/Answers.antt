use Rattle.settling.proofs.SomeRound.{some_round}
use Rattle.settling.proofs.rounds.a_round_may_come.Goals as goal

pub returns : goal.returns
returns c = some_round
