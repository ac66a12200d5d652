use Rattle.replica_node.proofs.RestLemmas.{recoverable_at_rest, selects_format_2, stands_at_rest}
use Rattle.replica_node.proofs.laws.a_node_at_rest_is_recoverable.Goals as goal

pub returns-clause-stands : goal.returns-clause-stands
returns-clause-stands g c table node image rest is left = stands_at_rest g.D.Disk.view table node rest is image left

pub returns-clause-recoverable : goal.returns-clause-recoverable
returns-clause-recoverable g c table node rest is = recoverable_at_rest g.D.Disk.view table node rest is

pub returns-clause-format : goal.returns-clause-format
returns-clause-format g c table node rest = selects_format_2 g.D.Disk.view table node rest
