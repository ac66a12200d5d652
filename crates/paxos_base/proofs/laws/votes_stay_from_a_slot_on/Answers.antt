use Rattle.paxos_base.proofs.PutLemmas.{at_from, SlotsRise-votes_from}
use Rattle.paxos_base.proofs.laws.votes_stay_from_a_slot_on.Goals as goal

pub returns-clause-at : goal.returns-clause-at
returns-clause-at c = at_from

pub returns-clause-rise : goal.returns-clause-rise
returns-clause-rise c = SlotsRise-votes_from
