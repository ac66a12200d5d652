use Rattle.synchronous_rounds.proofs.SomeCampaign.{some_campaign, some_named, some_second}
use Rattle.synchronous_rounds.proofs.SomeYield.{some_yield}
use Rattle.synchronous_rounds.proofs.election.a_campaign_may_be_made.Goals as goal

pub returns-clause-first : goal.returns-clause-first
returns-clause-first c = some_campaign

pub returns-clause-again : goal.returns-clause-again
returns-clause-again c = some_second

pub returns-clause-yielded : goal.returns-clause-yielded
returns-clause-yielded c = some_yield

pub returns-clause-named : goal.returns-clause-named
returns-clause-named c = some_named
