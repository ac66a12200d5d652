use Rattle.settling.proofs.SettleLeadLemmas.{leads_nearer, now_has_table}
use Rattle.settling.proofs.settle.one_becomes_idle.Goals as goal

pub returns-clause-nearer : goal.returns-clause-nearer
returns-clause-nearer c = leads_nearer

pub returns-clause-launch : goal.returns-clause-launch
returns-clause-launch c = now_has_table
