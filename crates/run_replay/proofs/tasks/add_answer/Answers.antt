use Rattle.std.proofs.Common.{◌++◌, sym, ap, ◌∙◌, append-nil as append_nil}
use Rattle.history.specs.declared.turn.Cause.TheVariants.{Answer}
use Rattle.script_semantics.specs.Round.{answer_tasks}
use Rattle.run_replay.proofs.TaskLemmas.{task_pushed}
use Rattle.run_replay.specs.Tasks.{tasks_in}
use Rattle.run_replay.specs.declared.tasks.Task.TheVariants as listed
use Rattle.run_replay.proofs.tasks.add_answer.Goals as goal

pub returns-in-None : goal.returns-in-None
returns-in-None c =
    sym (append_nil (tasks_in c.args.tasks.now.items)) ∙ ap (λ waits. tasks_in c.args.tasks.now.items ++ answer_tasks c.args.who waits) (sym c.in-None.is)

pub returns-in_ok-push-in-Some : goal.returns-in_ok-push-in-Some
returns-in_ok-push-in-Some c =
    task_pushed c.args.tasks.now.items c.push.new.self.items (listed.Do c.args.who Answer) c.in_ok-push-in-Some.ensures.items
    ∙ ap (λ waits. tasks_in c.args.tasks.now.items ++ answer_tasks c.args.who waits) (sym c.in-Some.is)
