use Rattle.settling.proofs.ClusterLemmas.{round_leaves_no_fault}
use Rattle.settling.proofs.DrainLeadLemmas.{goes_round, round_stands}
use Rattle.settling.proofs.drain.a_drain_round_is_a_round.Goals as goal

pub returns-clause-round : goal.returns-clause-round
returns-clause-round c = goes_round

pub returns-clause-faultless : goal.returns-clause-faultless
returns-clause-faultless c = λ members table who at book rows situation after alone goes.
    round_leaves_no_fault members table at book rows situation after alone.cluster
    (goes_round members table who at book rows situation after alone goes) alone.stands

pub returns-clause-standing : goal.returns-clause-standing
returns-clause-standing c = λ members table who at book rows situation after alone goes.
    round_stands members table at book rows situation after (goes_round members table who at book rows situation after alone goes)
