use Rattle.launch_machine.specs.Clerk.{in_force}
use Rattle.launch_machine.specs.Machine.{IsStartBeside}
use Rattle.launch_machine.proofs.MachineLemmas.{AreBesideBelow}
use Rattle.launch_machine.proofs.next.starts_of.Given as goal

abbrev pub invariant-loop-job : goal.invariant-loop-job
invariant-loop-job l = AreBesideBelow (IsStartBeside l.table (in_force l.table l.rows)) l.rows l.starts.items l.job
