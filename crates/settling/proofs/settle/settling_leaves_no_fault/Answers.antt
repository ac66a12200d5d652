use Rattle.settling.proofs.SettleLeadLemmas.{campaign_faultless, soon_faultless}
use Rattle.settling.proofs.settle.settling_leaves_no_fault.Goals as goal

pub returns-clause-campaign : goal.returns-clause-campaign
returns-clause-campaign c = campaign_faultless

pub returns-clause-round : goal.returns-clause-round
returns-clause-round c = soon_faultless
