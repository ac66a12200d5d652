use Rattle.launch_machine.proofs.EndedLemmas.{AreEndedBelow}
use Rattle.launch_machine.proofs.adoption.are_ended_by.Given as goal

abbrev pub invariant-loop-job : goal.invariant-loop-job
invariant-loop-job l = AreEndedBelow l.table l.rows l.now l.job
