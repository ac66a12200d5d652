use Rattle.synchronous_rounds.proofs.YieldLemmas.{campaigns_again}
use Rattle.synchronous_rounds.proofs.election.one_that_yields_campaigns_again.Goals as goal

pub returns : goal.returns
returns c = campaigns_again
