use Rattle.std.proofs.Common.{arith, subst, sym}
use Rattle.run_replay.specs.Tasks.{standing_tasks, AreAsked}
use Rattle.run_audit.specs.Begins.{BeginsToPlay}
use Rattle.run_audit.proofs.PartLemmas.{asked_comes}
use Rattle.run_audit.proofs.PlayLemmas.{comes_out}
use Rattle.script_semantics.specs.Parts.{Plays}
use Rattle.run_audit.proofs.settle.play_standing.Goals as goal

pub standing_tasks-requires : goal.standing_tasks-requires
standing_tasks-requires c =
    let count = c.requires.ready.is.seated.count in
    record { member = omega (arith, c.requires.member, count) }

pub returns : goal.returns
returns c =
    asked_comes c.args.table.now (standing_tasks c.args.who) c.args.replay.now.book.members c.deref.result.now c.args.replay.now c.args.rest.now c.play_tasks.new.replay c.play_tasks.new.rest
    c.play_tasks.result (subst (AreAsked (standing_tasks c.args.who) c.args.replay.now) (sym c.deref.ensures.value) c.in_ok-tasks.ensures) c.play_tasks.ensures

pub returns-in_err-tasks : goal.returns-in_err-tasks
returns-in_err-tasks c =
    comes_out c.args.table.now (BeginsToPlay c.args.replay.now.book.members (standing_tasks c.args.who)) (Plays c.args.replay.now.book.members (standing_tasks c.args.who)) c.args.replay.now c.args.rest.now _ _ _
    c.from_residual.ensures.1
