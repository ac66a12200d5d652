use Rattle.std.proofs.Common.{◌≡◌, ℕ, [], Err, ◌<◌, ◌≤◌, length, refl, sym, ap, ◌∙◌, subst, arith, ◌^◌, None, Some}
use Rattle.std.specs.Prelude.{IsErrOf}
use Rattle.world_steps.proofs.AnewLemmas.{anew_at}
use Rattle.replica_core.specs.Replica.{IsSmall, ReplicaState}
use Rattle.durable_changes.specs.Anew.{ProposesAnew}
use Rattle.replica_core.specs.Commit.{kept_after}
use Rattle.replica_core.specs.Step.{IsSameReplica, Steps, fault_in}
use Rattle.replica_node.specs.declared.fault.NodeFault.TheVariants.{Stopped}
use Rattle.replica_node.specs.Kept.{IsAnsweredByArm, KeepsChange, LeavesByArm, area_for}
use Rattle.replica_node.proofs.ReliableLemmas.{reliable_unfailing}
use Rattle.replica_node.specs.Node.{IsChangeOf, disk_of, replica_of, store_of}
use Rattle.replica_store.specs.Store.{area_of}
use Rattle.launch_machine.specs.Clerk.{table_size}
use Rattle.step_spec.specs.State.{State}
use Rattle.world_steps.proofs.MemoryLemmas.{cause_breaks_none, memory_unless_stopped, no_letter}
use Rattle.world_steps.proofs.StepLemmas.{ahead_small, beside_next, change_in}
use Rattle.world_steps.proofs.Stopping.{and_some, calls_same, cant_fail, has_stopped, stands_beside}
use Rattle.world_steps.proofs.armed.take_armed.Goals as goal

pub handle-requires-clause-small : goal.handle-requires-clause-small
handle-requires-clause-small g c =
    let may = c.requires.may.2 in
    let counted : length may.book.turns ≤ c.requires.may.0 = may.counted in
    let turns : length may.book.turns < 2 ^ 31 = omega (arith, counted, c.requires.may.1) in
    subst (λ (replica : ReplicaState). IsSmall replica.state replica.machine.rows) (sym c.arm.ensures.replica)
    (ahead_small g.D.Disk.view c.args.table.now may.rows may.book may.who may.steps c.args.node.now may.beside turns may.few)

pub memory_of-requires-in_default : goal.memory_of-requires-in_default
memory_of-requires-in_default g c =
    let may = c.requires.may.2 in
    let told = may.told in
    let none =
    cause_breaks_none g.D.Disk.view c.args.table.now may.rows may.book may.who may.steps c.args.node.now c.args.cause c.args.input may.beside told in
    let unbroken = subst (λ (replica : ReplicaState). fault_in replica.identity.members c.args.input ≡ None) (sym c.arm.ensures.replica) none in
    let unfailing = c.arm.ensures.unfailing (reliable_unfailing (g.D.Disk.view.told (disk_of c.args.node.now)) may.beside.ahead.disk.reliable).0 in
    record {
      alone = memory_unless_stopped c.handle.result c.in-Err.fault (g.D.Disk.view.told (disk_of c.handle.new.self)) c.in-Err.is c.in_default.not-Stopped (c.handle.ensures.unfailing unfailing) c.handle.ensures.undamaged
          (no_letter c.handle.result (c.handle.ensures.fault ∙ unbroken));
    }

pub returns-in-Ok : goal.returns-in-Ok
returns-in-Ok g c = record {
  ended = λ rows book same beside told.
      let disk = beside.ahead.disk in
      let steps = subst (λ (replica : ReplicaState). Steps c.args.table.now c.args.input replica (replica_of c.handle.new.self) c.in-Ok.out) c.arm.ensures.replica c.in-Ok.ensures.steps in
      let changes = change_in c.args.table.now c.args.input (replica_of c.args.node.now) (replica_of c.handle.new.self) c.in-Ok.out steps in
      let armed_changes : IsChangeOf c.args.table.now c.args.input (replica_of c.arm.new.self) c.in-Ok.out.delta = subst (λ (replica : ReplicaState). IsChangeOf c.args.table.now c.args.input replica c.in-Ok.out.delta) (sym c.arm.ensures.replica) changes in
      let enough = (c.in-Ok.ensures.armed c.in-Ok.out.delta (record { left = c.args.arm.left; image = c.args.arm.image }) armed_changes (c.arm.ensures.armed disk.clean)).0 in
      let unfailing = c.in-Ok.ensures.unfailing (c.arm.ensures.unfailing (reliable_unfailing (g.D.Disk.view.told (disk_of c.args.node.now)) disk.reliable).0) in
      let trusted = c.disarm.ensures.honest.1 (c.handle.ensures.answer.honest_still.1 (c.arm.ensures.honest.1 beside.ahead.trusted)) in
      let area = ap area_of c.disarm.ensures.store ∙ c.in-Ok.ensures.area c.in-Ok.out.delta armed_changes ∙ ap (λ store. area_for c.in-Ok.out.delta (area_of store)) c.arm.ensures.store in (
        (refl, subst (λ (calls : ℕ). calls ≤ c.args.arm.left) (sym (calls_same c.in-Ok.out.delta)) enough),
        beside_next g.D.Disk.view c.args.table.now rows book c.args.who [] c.args.node.now c.disarm.new.self c.args.cause c.args.input c.in-Ok.out beside told
            (c.disarm.ensures.at_rest c.args.table.now c.in-Ok.ensures.at_rest) trusted (c.disarm.ensures.reliable unfailing) (c.disarm.ensures.clean (c.in-Ok.ensures.clean (c.arm.ensures.clean disk.clean))) area
            (subst (λ (replica : ReplicaState). Steps c.args.table.now c.args.input (replica_of c.args.node.now) replica c.in-Ok.out) (sym c.disarm.ensures.replica) steps),
      );
}

pub returns-in-Ok-attach_again : goal.returns-in-Ok-attach_again
returns-in-Ok-attach_again g c = record {
  ended = λ rows book same beside told.
      let disk = beside.ahead.disk in
      let armed = c.arm.ensures.armed disk.clean in
      let clean = c.arm.ensures.clean disk.clean in
      let stopped : IsErrOf c.handle.result Stopped = c.in-Err.is ∙ ap Err c.in-Stopped.is in
      let within = c.handle.ensures.stopped (and_some _ (g.D.Disk.view.told (disk_of c.arm.new.self)) armed) stopped in
      let stop = within.stop in
      let changes : IsChangeOf c.args.table.now c.args.input (replica_of c.args.node.now) (Some stop.change) =
      subst (λ (replica : ReplicaState). IsChangeOf c.args.table.now c.args.input replica (Some stop.change)) c.arm.ensures.replica within.change_of in
      let few = c.handle.ensures.too_few (Some stop.change) c.args.arm within.change_of stopped clean armed in
      let honest = c.handle.ensures.answer.honest_still.1 (c.arm.ensures.honest.1 beside.ahead.trusted) in
      let alike : IsSameReplica (replica_of c.handle.new.self) (replica_of c.arm.new.self) = c.in-Err.ensures.alike in
      let left = c.handle.ensures.kept_by_arm stop.change c.args.arm within.change_of stopped clean armed in
      let leaves : LeavesByArm (table_size c.args.table.now) (area_of (store_of c.arm.new.self)) (replica_of c.handle.new.self).state.kept stop.change c.args.arm (g.D.Disk.view.told (disk_of c.handle.new.self)) =
      subst (λ (state : State). LeavesByArm (table_size c.args.table.now) (area_of (store_of c.arm.new.self)) state.kept stop.change c.args.arm (g.D.Disk.view.told (disk_of c.handle.new.self))) (sym alike.state) left in
      let state : (replica_of c.handle.new.self).state ≡ (replica_of c.args.node.now).state = alike.state ∙ ap (λ (replica : ReplicaState). replica.state) c.arm.ensures.replica in
      let store = ap area_of c.arm.ensures.store in
      let sure = cant_fail c.handle.result (g.D.Disk.view.told (disk_of c.handle.new.self)) stopped
      (c.handle.ensures.unfailing (c.arm.ensures.unfailing (reliable_unfailing (g.D.Disk.view.told (disk_of c.args.node.now)) disk.reliable).0)) in
      let answered : IsAnsweredByArm (area_of (store_of c.args.node.now)) (replica_of c.args.node.now).state.kept stop.change c.args.arm c.in-Ok-attach_again.change =
      subst (λ area. IsAnsweredByArm area (replica_of c.args.node.now).state.kept stop.change c.args.arm c.in-Ok-attach_again.change) store
      (subst (λ (s : State). IsAnsweredByArm (area_of (store_of c.arm.new.self)) s.kept stop.change c.args.arm c.in-Ok-attach_again.change) state
      (c.in-Ok-attach_again.ensures.answer_by_arm stop (area_of (store_of c.arm.new.self)) c.args.arm honest leaves)) in
      let anew = anew_at c.args.table.now rows book (replica_of c.args.node.now) beside.few beside.behind
      (stands_beside g.D.Disk.view c.args.table.now rows book c.args.who c.args.node.now beside) in
      let stops =
      has_stopped g.D.Disk.view c.args.table.now rows book c.args.who c.args.members c.args.node.now c.attach_again.new.self c.args.cause c.args.input
      c.args.arm c.in-Ok-attach_again.change stop.change beside told changes few answered
      (λ loses. c.in-Ok-attach_again.ensures.lost_by_arm stop (area_of (store_of c.arm.new.self)) c.args.arm honest leaves (subst (λ (s : State). ProposesAnew s) (sym state) anew)
      (λ keeps. loses (subst (λ area. KeepsChange area stop.change c.args.arm) store keeps)))
      c.in-Ok-attach_again.ensures.at_rest (c.attach_again.ensures.answer.honest_still.1 honest) (c.in-Ok-attach_again.ensures.reliable sure) c.in-Ok-attach_again.ensures.clean
      (c.in-Ok-attach_again.ensures.area_by_arm stop (area_of (store_of c.arm.new.self)) c.args.arm honest leaves ∙ ap (area_for c.in-Ok-attach_again.change) store)
      c.in-Ok-attach_again.ensures.identity same c.in-Ok-attach_again.ensures.started
      (c.in-Ok-attach_again.ensures.kept honest ∙ ap (λ (s : State). kept_after c.in-Ok-attach_again.change s.kept) state) in (
        (c.args.arm, refl, stops.0),
        stops.1,
      );
}
