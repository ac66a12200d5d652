use Rattle.settling.proofs.AloneBookLemmas.{drain_is_round, drain_stands, round_leaves_right}
use Rattle.settling.proofs.alone.its_drain_round_is_a_round.Goals as goal

pub returns-clause-round : goal.returns-clause-round
returns-clause-round c = drain_is_round

pub returns-clause-faultless : goal.returns-clause-faultless
returns-clause-faultless c = round_leaves_right

pub returns-clause-standing : goal.returns-clause-standing
returns-clause-standing c = drain_stands
