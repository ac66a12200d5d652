use Rattle.paxos_base.proofs.VoteLemmas.{SlotsRise-one_vote}
use Rattle.paxos_base.proofs.laws.slots_have_one_vote.Goals as goal

pub returns : goal.returns
returns c = SlotsRise-one_vote
