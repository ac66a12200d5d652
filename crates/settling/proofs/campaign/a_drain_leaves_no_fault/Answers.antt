use Rattle.settling.proofs.CampaignRoundLemmas.{drain_leaves_no_fault}
use Rattle.settling.proofs.campaign.a_drain_leaves_no_fault.Goals as goal

pub returns : goal.returns
returns c = drain_leaves_no_fault
