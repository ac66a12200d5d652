use Rattle.std.proofs.Common.{length}
use Rattle.run_replay.specs.Tasks.{tasks_in}
use Rattle.run_audit.proofs.ByArmsLemmas.{HasBegunByArms}
use Rattle.run_audit.specs.ByArms.{tasks_backwards}
use Rattle.run_audit.proofs.arms.play_by_arms.Given as goal

abbrev pub invariant-tasks : goal.invariant-tasks
invariant-tasks l = HasBegunByArms l.table l.fn.replay l.replay l.fn.rest l.rest (tasks_in l.tasks) (tasks_backwards l.left.items)

abbrev pub decreases-tasks : goal.decreases-tasks
decreases-tasks l = length l.left.items
