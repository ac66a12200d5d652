use Rattle.settling.proofs.SomeDrain.{some_campaign, some_leads, some_quiet, some_round}
use Rattle.settling.proofs.SomeYield.{some_four, some_yield}
use Rattle.settling.proofs.campaign.one_may_come_to_lead.Goals as goal

pub returns-clause-campaign : goal.returns-clause-campaign
returns-clause-campaign c = some_campaign

pub returns-clause-round : goal.returns-clause-round
returns-clause-round c = some_round

pub returns-clause-yields : goal.returns-clause-yields
returns-clause-yields c = some_yield

pub returns-clause-four : goal.returns-clause-four
returns-clause-four c = some_four

pub returns-clause-leads : goal.returns-clause-leads
returns-clause-leads c = some_leads

pub returns-clause-quiet : goal.returns-clause-quiet
returns-clause-quiet c = some_quiet
