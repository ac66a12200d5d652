use Rattle.std.proofs.Common.{if◌then◌else◌, ℕ, List, [], ◌∷◌, ap, arith}
use Rattle.script_semantics.specs.Situation.{Restart, Situation, Task}
use Rattle.run_replay.proofs.TaskLemmas.{asked_all, asked_next}
use Rattle.run_replay.specs.Tasks.{tasks_in}
use Rattle.run_replay.proofs.replay.Replay.restart_tasks.Goals as goal

abbrev again : Situation → ℕ → List Task
again situation who = if situation.standing.runs who then [] else Restart who ∷ []

pub members-init : goal.members-init
members-init c = λ table rows situation is. ap tasks_in c.new-tasks.ensures.items

pub members-preserved : goal.members-preserved
members-preserved c =
    asked_next again c.args.self.now c.members.who c.members.tasks.items c.add_restart.new.tasks.items c.members.invariant c.in_ok-add_restart.ensures

pub returns : goal.returns
returns c = asked_all again c.args.self.now c.members.who c.members.tasks.items (let count = c.args.self.now.seats.ok.0 in omega (arith, count, c.members-test.false, c.members.auto.who-end, c.len-who-end.ensures)) c.members.invariant
