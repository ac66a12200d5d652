use Rattle.std.proofs.Common.{get_or, length, take, drop, suc, ap, subst}
use Rattle.run_replay.specs.Tasks.{task_of, tasks_in}
use Rattle.run_audit.proofs.PlayLemmas.{HasBegun, begun_all, begun_next, begun_none, begun_ready, begun_stops, comes_err, comes_out, default_task, tasks_more, tasks_split, tasks_whole}
use Rattle.run_audit.specs.Begins.{BeginsToPlay}
use Rattle.run_audit.specs.Played.{StopsPart}
use Rattle.script_semantics.specs.Parts.{Plays}
use Rattle.run_audit.proofs.play.play_tasks.Goals as goal

pub tasks-init : goal.tasks-init
tasks-init c = begun_none c.args.table.now c.args.replay.now c.args.rest.now c.requires.few

pub play_task-requires-clause-ready : goal.play_task-requires-clause-ready
play_task-requires-clause-ready c =
    begun_ready c.args.table.now c.args.replay.now c.tasks.replay c.args.rest.now c.tasks.rest (tasks_in (take c.tasks.task-index c.args.tasks.now)) c.tasks.invariant c.requires.ready

pub play_task-requires-clause-few : goal.play_task-requires-clause-few
play_task-requires-clause-few c = c.tasks.invariant.few

pub tasks-preserved : goal.tasks-preserved
tasks-preserved c =
    let place = c.tasks.task-index in
    let tasks = c.args.tasks.now in
    subst (HasBegun c.args.table.now c.args.replay.now c.play_task.new.replay c.args.rest.now c.play_task.new.rest) (tasks_more tasks place c.tasks-test.true)
    (begun_next c.args.table.now c.args.replay.now c.tasks.replay c.play_task.new.replay c.args.rest.now c.tasks.rest c.play_task.new.rest (tasks_in (take place tasks)) (task_of (get_or tasks place default_task))
    c.tasks.invariant c.in_ok-play_task.ensures.takes c.in_ok-play_task.ensures.members c.in_ok-play_task.ensures.few)

pub deliver-requires : goal.deliver-requires
deliver-requires c = record {
  ready = (
    c.args.table.now,
    begun_ready c.args.table.now c.args.replay.now c.tasks.replay c.args.rest.now c.tasks.rest (tasks_in (take c.tasks.task-index c.args.tasks.now)) c.tasks.invariant c.requires.ready,
  );
}

pub returns : goal.returns
returns c =
    begun_all c.args.table.now c.args.replay.now c.tasks.replay c.deliver.new.self c.args.rest.now c.tasks.rest (tasks_in c.args.tasks.now) _
    (subst (HasBegun c.args.table.now c.args.replay.now c.tasks.replay c.args.rest.now c.tasks.rest) (tasks_whole c.args.tasks.now c.tasks.task-index c.tasks-test.false) c.tasks.invariant)
    (ap length c.letters.ensures) c.in_ok-deliver.ensures.delivers c.deliver.ensures.book

pub returns-in_err-play_task : goal.returns-in_err-play_task
returns-in_err-play_task c =
    let place = c.tasks.task-index in
    let tasks = c.args.tasks.now in
    comes_err c.args.table.now (BeginsToPlay c.args.replay.now.book.members (λ situation. tasks_in tasks)) (Plays c.args.replay.now.book.members (λ situation. tasks_in tasks)) c.args.replay.now c.args.rest.now _ _ _ _
    c.from_residual.ensures.1
    (subst (λ all. StopsPart c.args.table.now (BeginsToPlay c.args.replay.now.book.members (λ situation. all)) (Plays c.args.replay.now.book.members (λ situation. all)) c.args.replay.now c.args.rest.now c.in_err-play_task.field-0.0)
    (tasks_split tasks place c.tasks-test.true)
    (begun_stops c.args.table.now c.args.replay.now c.tasks.replay c.args.rest.now c.tasks.rest (tasks_in (take place tasks)) (task_of (get_or tasks place default_task)) (tasks_in (drop (suc place) tasks))
    c.in_err-play_task.field-0.0 c.tasks.invariant c.in_err-play_task.ensures.stops))

pub returns-in_err-deliver : goal.returns-in_err-deliver
returns-in_err-deliver c =
    let tasks = c.args.tasks.now in
    comes_out c.args.table.now (BeginsToPlay c.args.replay.now.book.members (λ situation. tasks_in tasks)) (Plays c.args.replay.now.book.members (λ situation. tasks_in tasks)) c.args.replay.now c.args.rest.now _ _ _
    c.from_residual-in_err-deliver.ensures.1
