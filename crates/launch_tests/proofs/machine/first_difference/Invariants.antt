use Rattle.launch_machine.specs.Machine.{StandsFor}
use Rattle.launch_tests.proofs.machine.first_difference.Given as goal

abbrev pub invariant-loop-place : goal.invariant-loop-place
invariant-loop-place l = StandsFor l.table l.machine
