use Rattle.std.proofs.Common.{if◌then◌else◌, [], ◌∷◌}
use Rattle.script_semantics.specs.Situation.{Restart}
use Rattle.run_replay.proofs.TaskLemmas.{asked_of}
use Rattle.run_replay.specs.Tasks.{AreAsked}
use Rattle.run_replay.proofs.replay.Replay.restart_tasks.Given as goal

abbrev pub invariant-members : goal.invariant-members
invariant-members l = AreAsked (asked_of (λ situation who. if situation.standing.runs who then [] else Restart who ∷ []) l.who) l.self l.tasks.items
