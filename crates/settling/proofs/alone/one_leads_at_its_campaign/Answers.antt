use Rattle.settling.proofs.AloneBookLemmas.{campaign_binds, campaign_drops, campaign_is_won, campaign_leaves_no_fault, campaign_stands}
use Rattle.settling.proofs.alone.one_leads_at_its_campaign.Goals as goal

pub returns-clause-leads : goal.returns-clause-leads
returns-clause-leads c = campaign_is_won

pub returns-clause-bound : goal.returns-clause-bound
returns-clause-bound c = campaign_binds

pub returns-clause-dropped : goal.returns-clause-dropped
returns-clause-dropped c = campaign_drops

pub returns-clause-faultless : goal.returns-clause-faultless
returns-clause-faultless c = campaign_leaves_no_fault

pub returns-clause-standing : goal.returns-clause-standing
returns-clause-standing c = campaign_stands
