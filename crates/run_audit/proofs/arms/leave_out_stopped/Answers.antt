use Rattle.std.proofs.Common.{◌≤◌, ◌∙◌, ap, length, sym, subst}
use Rattle.std.specs.Prelude.{not}
use Rattle.script_semantics.specs.Arms.{is_task_of}
use Rattle.run_replay.specs.Tasks.{task_of}
use Rattle.run_replay.specs.declared.tasks.Task.{Task}
use Rattle.run_audit.proofs.ByArmsLemmas.{fewer_left, left_without}
use Rattle.run_audit.specs.ByArms.{tasks_backwards, tasks_without}
use Rattle.run_audit.proofs.arms.leave_out_stopped.Goals as goal

pub returns-in-None-clause-left : goal.returns-in-None-clause-left
returns-in-None-clause-left c = ap (λ stopped. tasks_without stopped (tasks_backwards c.args.tasks.now.items)) (sym c.in-None.is)

pub returns-clause-left : goal.returns-clause-left
returns-clause-left c =
    left_without c.args.tasks.now.items c.leave_out.new.tasks.items c.in-Some.who c.leave_out.ensures ∙ ap (λ stopped. tasks_without stopped (tasks_backwards c.args.tasks.now.items)) (sym c.in-Some.is)

pub returns-clause-fewer : goal.returns-clause-fewer
returns-clause-fewer c =
    subst (λ left. length left ≤ length c.args.tasks.now.items) (sym c.leave_out.ensures) (fewer_left (λ (task : Task). not (is_task_of c.in-Some.who (task_of task))) c.args.tasks.now.items)
