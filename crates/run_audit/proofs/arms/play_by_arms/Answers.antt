use Rattle.std.proofs.Common.{◌≡◌, ◌+◌, ◌∷◌, [], length, ap, sym, ◌∙◌, subst, arith}
use Rattle.std.proofs.lemmas.List.{length-append}
use Rattle.script_semantics.specs.Arms.{PlaysByArms}
use Rattle.run_replay.specs.Tasks.{task_of, tasks_in}
use Rattle.run_audit.proofs.ByArmsLemmas.{HasBegunByArms, arms_all, arms_next, arms_none, arms_ready, arms_stop, left_last, none_left}
use Rattle.run_audit.proofs.PlayLemmas.{comes_err, comes_out}
use Rattle.run_audit.specs.Begins.{BeginsToPlayByArms}
use Rattle.run_audit.specs.ByArms.{tasks_backwards}
use Rattle.run_audit.proofs.arms.play_by_arms.Goals as goal

pub tasks-init : goal.tasks-init
tasks-init c =
    subst (HasBegunByArms c.args.table.now c.args.replay.now c.args.replay.now c.args.rest.now c.args.rest.now (tasks_in c.args.tasks.now)) (sym c.in_ok-left.ensures)
    (arms_none c.args.table.now c.args.replay.now c.args.rest.now (tasks_in c.args.tasks.now) c.requires.few)

pub play_task_by_arm-requires-clause-ready : goal.play_task_by_arm-requires-clause-ready
play_task_by_arm-requires-clause-ready c =
    arms_ready c.args.table.now c.args.replay.now c.tasks.replay c.args.rest.now c.tasks.rest (tasks_in c.args.tasks.now) (tasks_backwards c.tasks.left.items) c.tasks.invariant c.requires.ready

pub play_task_by_arm-requires-clause-few : goal.play_task_by_arm-requires-clause-few
play_task_by_arm-requires-clause-few c = c.tasks.invariant.few

pub tasks-smaller : goal.tasks-smaller
tasks-smaller c =
    let popped : length c.tasks.left.items ≡ length c.pop.new.self.items + 1 = ap length c.in-Some.ensures.items ∙ length-append c.pop.new.self.items (c.in-Some.task ∷ []) in
    let fewer = c.leave_out_stopped.ensures.fewer in
    omega (arith, popped, fewer)

pub tasks-preserved : goal.tasks-preserved
tasks-preserved c =
    let table = c.args.table.now in
    let all = tasks_in c.args.tasks.now in
    let before = c.pop.new.self.items in
    subst (HasBegunByArms table c.args.replay.now c.play_task_by_arm.new.replay c.args.rest.now c.play_task_by_arm.new.rest all) (sym c.leave_out_stopped.ensures.left)
    (arms_next table c.args.replay.now c.tasks.replay c.play_task_by_arm.new.replay c.args.rest.now c.tasks.rest c.play_task_by_arm.new.rest all (tasks_backwards before) (task_of c.in-Some.task)
    c.in_ok-stopped.stopped
    (subst (HasBegunByArms table c.args.replay.now c.tasks.replay c.args.rest.now c.tasks.rest all) (left_last c.tasks.left.items before c.in-Some.task c.in-Some.ensures.items) c.tasks.invariant)
    c.in_ok-stopped.ensures.takes c.in_ok-stopped.ensures.members c.in_ok-stopped.ensures.few)

pub deliver-requires : goal.deliver-requires
deliver-requires c = record {
  ready = (
    c.args.table.now,
    arms_ready c.args.table.now c.args.replay.now c.tasks.replay c.args.rest.now c.tasks.rest (tasks_in c.args.tasks.now) (tasks_backwards c.tasks.left.items) c.tasks.invariant c.requires.ready,
  );
}

pub returns-in_err-left : goal.returns-in_err-left
returns-in_err-left c =
    let n = c.args.replay.now.book.members in
    let all = tasks_in c.args.tasks.now in
    comes_out c.args.table.now (BeginsToPlayByArms n (λ situation. all)) (PlaysByArms n (λ situation. all)) c.args.replay.now c.args.rest.now _ _ _ c.from_residual.ensures.1

pub returns-in_err-stopped : goal.returns-in_err-stopped
returns-in_err-stopped c =
    let n = c.args.replay.now.book.members in
    let table = c.args.table.now in
    let all = tasks_in c.args.tasks.now in
    let before = c.pop.new.self.items in
    let stop = c.in_err-stopped.field-0.0 in
    comes_err table (BeginsToPlayByArms n (λ situation. all)) (PlaysByArms n (λ situation. all)) c.args.replay.now c.args.rest.now _ _ _ stop c.from_residual-in_err-stopped.ensures.1
    (arms_stop table c.args.replay.now c.tasks.replay c.args.rest.now c.tasks.rest all (tasks_backwards before) (task_of c.in-Some.task) stop
    (subst (HasBegunByArms table c.args.replay.now c.tasks.replay c.args.rest.now c.tasks.rest all) (left_last c.tasks.left.items before c.in-Some.task c.in-Some.ensures.items) c.tasks.invariant)
    c.in_err-stopped.ensures.stops)

pub returns-in_err-deliver : goal.returns-in_err-deliver
returns-in_err-deliver c =
    let n = c.args.replay.now.book.members in
    let all = tasks_in c.args.tasks.now in
    comes_out c.args.table.now (BeginsToPlayByArms n (λ situation. all)) (PlaysByArms n (λ situation. all)) c.args.replay.now c.args.rest.now _ _ _ c.from_residual-in_err-deliver.ensures.1

pub returns : goal.returns
returns c =
    let table = c.args.table.now in
    let all = tasks_in c.args.tasks.now in
    let none : length c.tasks.left.items ≡ 0 = omega (arith, c.tasks.left.ok.0, c.in_default.ensures.cases.0) in
    arms_all table c.args.replay.now c.tasks.replay c.deliver.new.self c.args.rest.now c.tasks.rest all _
    (subst (HasBegunByArms table c.args.replay.now c.tasks.replay c.args.rest.now c.tasks.rest all) (none_left c.tasks.left.items none) c.tasks.invariant)
    (ap length c.letters.ensures) c.in_ok-deliver.ensures.delivers c.deliver.ensures.book
