use Rattle.synchronous_rounds.proofs.NamedLemmas.{stands_still}
use Rattle.synchronous_rounds.proofs.election.no_promise_rises_without_a_campaign.Goals as goal

pub returns : goal.returns
returns c = stands_still
