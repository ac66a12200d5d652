use Rattle.replica_store.proofs.FileLemmas.{empty_stands, empty_recoverable}
use Rattle.replica_store.proofs.laws.an_empty_disk_is_recoverable.Goals as goal

pub returns-clause-stands : goal.returns-clause-stands
returns-clause-stands g c = empty_stands

pub returns-clause-recoverable : goal.returns-clause-recoverable
returns-clause-recoverable g c disk size empty = empty_recoverable size (g.D.Disk.view.may_leave disk) empty
