use Rattle.std.proofs.Common.{inl}
use Rattle.settling.proofs.SettleLeadLemmas.{first_leads, leads_on, soon_last, soon_nearer, soon_quiet}
use Rattle.settling.proofs.settle.one_comes_to_lead.Goals as goal

pub returns-clause-first : goal.returns-clause-first
returns-clause-first c = first_leads

pub returns-clause-nearer : goal.returns-clause-nearer
returns-clause-nearer c = soon_nearer

pub returns-clause-on : goal.returns-clause-on
returns-clause-on c = leads_on

pub returns-clause-last : goal.returns-clause-last
returns-clause-last c = soon_last

pub returns-clause-now : goal.returns-clause-now
returns-clause-now c = λ rounds members table who situation leads. inl leads

pub returns-clause-quiet : goal.returns-clause-quiet
returns-clause-quiet c = soon_quiet
