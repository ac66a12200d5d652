use Rattle.launch_machine.specs.Machine.{IsStartBeside}
use Rattle.launch_machine.proofs.MachineLemmas.{AreSetBelow}
use Rattle.launch_machine.proofs.next.set_starts.Given as goal

abbrev pub invariant-loop-job : goal.invariant-loop-job
invariant-loop-job l = AreSetBelow (IsStartBeside l.table l.force) l.rows l.starts l.job
