use Rattle.std.proofs.Common.{◌≡◌, ◌++◌, take}
use Rattle.script_semantics.specs.Round.{hear_tasks}
use Rattle.run_replay.specs.Tasks.{tasks_in}
use Rattle.run_replay.proofs.tasks.add_letters.Given as goal

abbrev pub invariant-letters : goal.invariant-letters
invariant-letters l = tasks_in l.tasks.items ≡ tasks_in l.fn.tasks.items ++ hear_tasks l.who (take l.place l.mail.items)
