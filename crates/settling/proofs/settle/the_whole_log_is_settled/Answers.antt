use Rattle.settling.proofs.SettleLeadLemmas.{now_ends}
use Rattle.settling.proofs.settle.the_whole_log_is_settled.Goals as goal

pub returns : goal.returns
returns c = now_ends
