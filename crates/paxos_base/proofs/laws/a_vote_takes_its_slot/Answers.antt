use Rattle.paxos_base.proofs.PutLemmas.{at_put, SlotsRise-put_vote}
use Rattle.paxos_base.proofs.laws.a_vote_takes_its_slot.Goals as goal

pub returns-clause-at : goal.returns-clause-at
returns-clause-at c = at_put

pub returns-clause-rise : goal.returns-clause-rise
returns-clause-rise c = SlotsRise-put_vote
