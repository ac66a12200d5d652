use Rattle.settling.proofs.TurnLemmas.{campaign_leaves_no_fault, campaign_stands}
use Rattle.settling.proofs.campaign.a_campaign_in_a_book_is_a_campaign.Goals as goal

pub returns-clause-campaign : goal.returns-clause-campaign
returns-clause-campaign c = campaign_stands

pub returns-clause-faultless : goal.returns-clause-faultless
returns-clause-faultless c = campaign_leaves_no_fault
