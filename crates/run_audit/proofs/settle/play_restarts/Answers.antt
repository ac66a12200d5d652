use Rattle.std.proofs.Common.{subst, sym}
use Rattle.script_semantics.specs.Settling.{restart_tasks}
use Rattle.run_replay.specs.Tasks.{AreAsked}
use Rattle.run_audit.proofs.PartLemmas.{asked_comes}
use Rattle.run_audit.proofs.PlayLemmas.{comes_out}
use Rattle.run_audit.specs.Begins.{BeginsToPlay}
use Rattle.script_semantics.specs.Parts.{Plays}
use Rattle.run_audit.proofs.settle.play_restarts.Goals as goal

pub restart_tasks-requires : goal.restart_tasks-requires
restart_tasks-requires c = record { ready = (c.args.table.now, c.requires.ready) }

pub returns : goal.returns
returns c =
    asked_comes c.args.table.now (restart_tasks c.args.replay.now.book.members) c.args.replay.now.book.members c.deref.result.now c.args.replay.now c.args.rest.now c.play_tasks.new.replay c.play_tasks.new.rest
    c.play_tasks.result (subst (AreAsked (restart_tasks c.args.replay.now.book.members) c.args.replay.now) (sym c.deref.ensures.value) c.in_ok-tasks.ensures) c.play_tasks.ensures

pub returns-in_err-tasks : goal.returns-in_err-tasks
returns-in_err-tasks c =
    comes_out c.args.table.now (BeginsToPlay c.args.replay.now.book.members (restart_tasks c.args.replay.now.book.members)) (Plays c.args.replay.now.book.members (restart_tasks c.args.replay.now.book.members)) c.args.replay.now c.args.rest.now _ _ _
    c.from_residual.ensures.1
