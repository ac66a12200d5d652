use Rattle.replica_store.proofs.FileLemmas.{recoverable_stands, fewer_recoverable}
use Rattle.replica_store.proofs.laws.a_stop_leaves_one_of_two_states.Goals as goal

pub returns-clause-stands : goal.returns-clause-stands
returns-clause-stands g c disk size before after image recoverable left = recoverable_stands size before after (g.D.Disk.view.may_leave disk) recoverable image left

pub returns-clause-recoverable : goal.returns-clause-recoverable
returns-clause-recoverable g c disk now size before after recoverable fewer = fewer_recoverable size before after (g.D.Disk.view.may_leave disk) (g.D.Disk.view.may_leave now) fewer recoverable
