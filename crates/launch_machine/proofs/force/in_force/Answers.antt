use Rattle.paxos_base.specs.Rows.{fresh_row}
use Rattle.launch_machine.proofs.MachineLemmas.{own_known}
use Rattle.launch_machine.proofs.force.in_force.Goals as goal

pub returns-clause-known : goal.returns-clause-known
returns-clause-known c = own_known c.args.table.now c.args.rows.now c.jobs.result (fresh_row 0) c.requires c.jobs.ensures.count
