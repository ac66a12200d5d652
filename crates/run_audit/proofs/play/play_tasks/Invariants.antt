use Rattle.std.proofs.Common.{take}
use Rattle.run_replay.specs.Tasks.{tasks_in}
use Rattle.run_audit.proofs.PlayLemmas.{HasBegun}
use Rattle.run_audit.proofs.play.play_tasks.Given as goal

abbrev pub invariant-tasks : goal.invariant-tasks
invariant-tasks l = HasBegun l.table l.fn.replay l.replay l.fn.rest l.rest (tasks_in (take l.task-index l.tasks))
