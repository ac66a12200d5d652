use Rattle.settling.proofs.DrainLeadLemmas.{alone_has_table, drained, goes_round}
use Rattle.settling.proofs.drain.a_leader_becomes_idle.Goals as goal

pub returns-clause-alone : goal.returns-clause-alone
returns-clause-alone c = λ members table who at book rows situation after alone goes.
    (drained members table who at book rows situation after alone (goes_round members table who at book rows situation after alone goes)).alone

pub returns-clause-nearer : goal.returns-clause-nearer
returns-clause-nearer c = λ members table who at book rows situation after alone goes.
    (drained members table who at book rows situation after alone (goes_round members table who at book rows situation after alone goes)).nearer

pub returns-clause-launch : goal.returns-clause-launch
returns-clause-launch c = alone_has_table
