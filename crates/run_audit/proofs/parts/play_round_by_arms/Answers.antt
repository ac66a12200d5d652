use Rattle.std.proofs.Common.{subst, sym}
use Rattle.script_semantics.specs.Arms.{PlaysByArms}
use Rattle.script_semantics.specs.Round.{round_tasks}
use Rattle.run_replay.specs.Tasks.{AreAsked}
use Rattle.run_audit.proofs.PartLemmas.{asked_comes_by_arms}
use Rattle.run_audit.proofs.PlayLemmas.{comes_out}
use Rattle.run_audit.specs.Begins.{BeginsToPlayByArms}
use Rattle.run_audit.proofs.parts.play_round_by_arms.Goals as goal

pub returns : goal.returns
returns c =
    asked_comes_by_arms c.args.table.now (round_tasks c.args.replay.now.book.members c.args.table.now.window c.args.at.0) c.args.replay.now.book.members c.deref.result.now c.args.replay.now c.args.rest.now
    c.play_by_arms.new.replay c.play_by_arms.new.rest c.play_by_arms.result (subst (AreAsked (round_tasks c.args.replay.now.book.members c.args.table.now.window c.args.at.0) c.args.replay.now) (sym c.deref.ensures.value) c.in_ok-tasks.ensures) c.play_by_arms.ensures

pub returns-in_err-tasks : goal.returns-in_err-tasks
returns-in_err-tasks c =
    let asked = round_tasks c.args.replay.now.book.members c.args.table.now.window c.args.at.0 in
    comes_out c.args.table.now (BeginsToPlayByArms c.args.replay.now.book.members asked) (PlaysByArms c.args.replay.now.book.members asked) c.args.replay.now c.args.rest.now _ _ _ c.from_residual.ensures.1
