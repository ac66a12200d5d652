use Rattle.paxos_base.specs.Rows.{OpenHaveCursors}
use Rattle.launch_tests.proofs.machine.chosen_of.Given as goal

abbrev pub invariant-loop-row : goal.invariant-loop-row
invariant-loop-row l = OpenHaveCursors l.items.items
