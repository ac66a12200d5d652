use Rattle.script_semantics.specs.Round.{tasks_of}
use Rattle.run_replay.proofs.TaskLemmas.{asked_of}
use Rattle.run_replay.specs.Tasks.{AreAsked}
use Rattle.run_replay.proofs.replay.Replay.round_tasks.Given as goal

abbrev pub invariant-members : goal.invariant-members
invariant-members l = AreAsked (asked_of (tasks_of l.window l.at.0) l.who) l.self l.tasks.items
