use Rattle.launch_machine.specs.Clerk.{in_force}
use Rattle.launch_machine.specs.Machine.{IsCallBeside}
use Rattle.launch_machine.proofs.MachineLemmas.{AreBesideBelow}
use Rattle.launch_machine.proofs.next.calls_of.Given as goal

abbrev pub invariant-loop-job : goal.invariant-loop-job
invariant-loop-job l = AreBesideBelow (IsCallBeside l.table (in_force l.table l.rows)) l.rows l.calls.items l.job
