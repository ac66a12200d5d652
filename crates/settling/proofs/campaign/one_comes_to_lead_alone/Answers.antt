use Rattle.std.proofs.Common.{inl}
use Rattle.settling.proofs.FirstLemmas.{first_campaign}
use Rattle.settling.proofs.PhaseLemmas.{comes_nearer, leads_at_last, leads_on, quiet_leads}
use Rattle.settling.proofs.campaign.one_comes_to_lead_alone.Goals as goal

pub returns-clause-first : goal.returns-clause-first
returns-clause-first c = first_campaign

pub returns-clause-nearer : goal.returns-clause-nearer
returns-clause-nearer c = comes_nearer

pub returns-clause-on : goal.returns-clause-on
returns-clause-on c = leads_on

pub returns-clause-last : goal.returns-clause-last
returns-clause-last c = leads_at_last

pub returns-clause-leads : goal.returns-clause-leads
returns-clause-leads c = λ rounds members table who situation leads. inl leads

pub returns-clause-quiet : goal.returns-clause-quiet
returns-clause-quiet c = quiet_leads
