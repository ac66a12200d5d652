use Rattle.std.proofs.Common.{subst, sym}
use Rattle.script_semantics.specs.Arms.{PlaysByArms}
use Rattle.script_semantics.specs.Commands.{tasks_for}
use Rattle.run_replay.specs.Tasks.{AreAsked}
use Rattle.run_audit.proofs.PartLemmas.{asked_comes_by_arms}
use Rattle.run_audit.proofs.PlayLemmas.{comes_out}
use Rattle.run_audit.specs.Begins.{BeginsToPlayByArms}
use Rattle.run_audit.proofs.parts.play_task_for.Goals as goal

pub returns : goal.returns
returns c =
    asked_comes_by_arms c.args.table.now (tasks_for c.args.command.now) c.args.replay.now.book.members c.deref.result.now c.args.replay.now c.args.rest.now c.play_by_arms.new.replay c.play_by_arms.new.rest
    c.play_by_arms.result (subst (AreAsked (tasks_for c.args.command.now) c.args.replay.now) (sym c.deref.ensures.value) c.in_ok-tasks.ensures) c.play_by_arms.ensures

pub returns-in_err-tasks : goal.returns-in_err-tasks
returns-in_err-tasks c =
    let asked = tasks_for c.args.command.now in
    comes_out c.args.table.now (BeginsToPlayByArms c.args.replay.now.book.members asked) (PlaysByArms c.args.replay.now.book.members asked) c.args.replay.now c.args.rest.now _ _ _ c.from_residual.ensures.1
