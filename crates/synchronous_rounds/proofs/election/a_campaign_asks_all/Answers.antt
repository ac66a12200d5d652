use Rattle.synchronous_rounds.proofs.MadeLemmas.{again_made, first_made}
use Rattle.synchronous_rounds.proofs.election.a_campaign_asks_all.Goals as goal

pub returns-clause-first : goal.returns-clause-first
returns-clause-first c = first_made

pub returns-clause-again : goal.returns-clause-again
returns-clause-again c = again_made
