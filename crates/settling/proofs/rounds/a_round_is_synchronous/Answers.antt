use Rattle.settling.proofs.ClusterLemmas.{round_is_synchronous, round_leaves_no_fault}
use Rattle.settling.proofs.RoundsLemmas.{rounds_are_synchronous}
use Rattle.settling.proofs.rounds.a_round_is_synchronous.Goals as goal

pub returns-clause-cluster : goal.returns-clause-cluster
returns-clause-cluster c = round_is_synchronous

pub returns-clause-faultless : goal.returns-clause-faultless
returns-clause-faultless c = round_leaves_no_fault

pub returns-clause-rounds : goal.returns-clause-rounds
returns-clause-rounds c = rounds_are_synchronous
