use Rattle.settling.proofs.TriedLemmas.{named_tried, next_is_new, promised_tried, voted_tried}
use Rattle.settling.proofs.campaign.a_ballot_is_tried_by_its_own_replica.Goals as goal

pub returns-clause-promised : goal.returns-clause-promised
returns-clause-promised c = promised_tried

pub returns-clause-voted : goal.returns-clause-voted
returns-clause-voted c = voted_tried

pub returns-clause-named : goal.returns-clause-named
returns-clause-named c = named_tried

pub returns-clause-new : goal.returns-clause-new
returns-clause-new c = next_is_new
