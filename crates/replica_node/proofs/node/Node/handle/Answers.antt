use Rattle.std.proofs.Common.{◌≡◌, Some, Result, Ok, Err, refl, sym, ap, ◌∙◌, subst}
use Rattle.std.specs.Option.{option_copied}
use Rattle.launch_machine.specs.Clerk.{table_size}
use Rattle.paxos_base.specs.declared.rows.TableSize.{TableSize}
use Rattle.step_spec.specs.Step.{step}
use Rattle.store_format.specs.Order.{ChangeMayFollow}
use Rattle.replica_core.specs.Commit.{kept_after}
use Rattle.replica_core.specs.Replica.{ReplicaState}
use Rattle.replica_core.specs.Step.{IsSameReplica, CanTake}
use Rattle.replica_store.specs.Files.{FilesStandForEither, IsRecoverable}
use Rattle.replica_core.specs.declared.out.StepOut.{StepOut}
use Rattle.replica_node.specs.Faults.{of_disk_answer, EndsRun}
use Rattle.replica_node.specs.declared.fault.NodeFault.TheVariants as Node
use Rattle.paxos_base.specs.declared.durable.Delta.{Delta}
use Rattle.step_spec.specs.State.{State}
use Rattle.std.specs.Prelude.{Option, IsErrOf}
use Rattle.replica_store.specs.Store.{area_of, records_of}
use Rattle.replica_node.specs.Kept.{LeavesByArm, area_for, calls_of_change}
use Rattle.replica_node.proofs.KeptLemmas.{count_calls, tells_counted, tells_too_few}
use Rattle.replica_node.specs.Node.{FilesStandAround, disk_calls_for}
use Rattle.replica_node.proofs.FaultLemmas.{memory_below}
use Rattle.replica_node.proofs.RestLemmas.{at_rest_after, at_rest_still, either_around, few_members, leaves_weaker, recoverable_around, stands_at_rest}
use Rattle.replica_node.proofs.StepLemmas.{change_follows, planned_alters, plans_alike}
use Rattle.replica_node.proofs.ToldLemmas.{one_change, told_done, told_failed, told_of_step}
use Rattle.replica_node.proofs.ReliableLemmas.{ends_by_arm, no_fault_in, planned_ends, unfailing_handed, unfailing_planned}
use Rattle.replica_node.proofs.StoppedLemmas.{stopped_within, tells_stopped}
use Rattle.replica_node.specs.Reliable.{IsUnfailingAfter}
use Rattle.disk_model.specs.Made.{MadeCalls}
use Rattle.disk_model.specs.Told.{TellsThen}
use Rattle.store_format.specs.Area.{StandFor}
use Rattle.replica_node.specs.declared.fault.NodeFault.{NodeFault}
use Rattle.replica_node.proofs.node.Node.handle.Goals as goal

pub keep-requires-clause-follows : goal.keep-requires-clause-follows
keep-requires-clause-follows g c change is =
    let old = c.args.self.now.replica in
    let table = c.args.table.now in
    let rest = c.requires.at_rest in
    let plans = c.in_ok-plan.ensures.planned in
    let told = c.delta.ensures old (step old.identity plans.event old.state) plans.plans in
    subst (λ size. ChangeMayFollow size c.plan.new.self.state.kept change) (sym rest.size)
    (change_follows table c.args.input old c.plan.new.self c.plan.new.planned (option_copied c.delta.result) change (few_members old.identity.me old.identity.members rest.member rest.few) rest.coherent rest.of_table
    c.plan.ensures.alike plans c.in_ok-plan.ensures.can told is)

-- ---- the change is saved

pub returns-in-Ok-clause-at_rest : goal.returns-in-Ok-clause-at_rest
returns-in-Ok-clause-at_rest g c =
    let old = c.args.self.now in
    let kept = c.keep.new.self in
    let table = c.args.table.now in
    let planned = c.plan.new.planned in
    let plans = c.in_ok-plan.ensures.planned in
    let acts = step old.replica.identity plans.event old.replica.state in
    let told = c.delta.ensures old.replica acts plans.plans in
    let alike : IsSameReplica kept.replica old.replica = subst (λ (now : ReplicaState). IsSameReplica now old.replica) (sym c.keep.ensures.replica) c.plan.ensures.alike in
    let takes = c.complete.ensures acts (plans_alike old.replica kept.replica acts planned alike plans.plans) in
    at_rest_after g.D.Disk.view table c.args.input old (record { replica = c.complete.new.self; store = kept.store; disk = kept.disk; running = kept.running; stopped = kept.stopped }) kept.replica planned (option_copied c.delta.result)
    c.complete.result c.requires.at_rest alike plans takes told c.in-Ok.ensures.runs c.keep.ensures.size c.keep.ensures.format c.in-Ok.ensures.rests (rw c.keep.ensures.replica c.in-Ok.ensures.keeps)

pub returns-in-Ok-clause-safe : goal.returns-in-Ok-clause-safe
returns-in-Ok-clause-safe g c honest image left =
    let kept = c.keep.new.self in
    stands_at_rest g.D.Disk.view c.args.table.now (record { replica = c.complete.new.self; store = kept.store; disk = kept.disk; running = kept.running; stopped = kept.stopped }) (returns-in-Ok-clause-at_rest g c)
    (c.keep.ensures.answer.honest_still.1 honest) image left

pub returns-in-Ok-clause-images : goal.returns-in-Ok-clause-images
returns-in-Ok-clause-images g c honest =
    let old = c.args.self.now in
    let now = c.plan.new.self in
    let table = c.args.table.now in
    let size = old.store.size in
    let delta = option_copied c.delta.result in
    let plans = c.in_ok-plan.ensures.planned in
    let told = c.delta.ensures old.replica (step old.replica.identity plans.event old.replica.state) plans.plans in
    leaves_weaker g.D.Disk.view old.disk c.keep.new.self.disk (FilesStandForEither size now.state.kept (kept_after delta now.state.kept)) (FilesStandAround table c.args.input old.replica)
    (either_around table c.args.input old.replica now size delta plans.event plans.event_is c.plan.ensures.alike c.requires.at_rest.size told) (c.keep.ensures.images honest)

pub returns-in-Ok-clause-told : goal.returns-in-Ok-clause-told
returns-in-Ok-clause-told g c =
    let old = c.args.self.now in
    let now = record old { replica = c.plan.new.self } in
    let delta = option_copied c.delta.result in
    let plans = c.in_ok-plan.ensures.planned in
    let told = c.delta.ensures old.replica (step old.replica.identity plans.event old.replica.state) plans.plans in
    told_of_step c.args.table.now c.args.input old now plans.event delta (Ok c.complete.result) (g.D.Disk.view.told old.disk) (g.D.Disk.view.told c.keep.new.self.disk) plans.event_is told c.plan.ensures.alike refl
    (λ own stand. told_done of_disk_answer of_disk_answer (disk_calls_for now own delta) tt c.complete.result (g.D.Disk.view.told old.disk) (g.D.Disk.view.told c.keep.new.self.disk) (c.in-Ok.ensures.told own stand))

pub returns-in-Ok-clause-area : goal.returns-in-Ok-clause-area
returns-in-Ok-clause-area g c change of =
    let old = c.args.self.now in
    let delta = option_copied c.delta.result in
    let plans = c.in_ok-plan.ensures.planned in
    let changes = c.delta.ensures old.replica (step old.replica.identity plans.event old.replica.state) plans.plans in
    let one : change ≡ delta = one_change c.args.table.now c.args.input old.replica plans.event delta change plans.event_is changes of in
    subst (λ (d : Option Delta). area_of c.keep.new.self.store ≡ area_for d (area_of old.store)) (sym one) c.in-Ok.ensures.area

pub returns-in-Ok-clause-armed : goal.returns-in-Ok-clause-armed
returns-in-Ok-clause-armed g c change arm of armed =
    let old = c.args.self.now in
    let own = c.requires.at_rest.keeps in
    tells_counted (disk_calls_for old own.0 change) (calls_of_change change) c.complete.result arm (g.D.Disk.view.told old.disk) (g.D.Disk.view.told c.keep.new.self.disk) (count_calls old own.0 change) armed
    (returns-in-Ok-clause-told g c own.0 change own.1 of)

pub returns-in-Ok-clause-ends_by_arm : goal.returns-in-Ok-clause-ends_by_arm
returns-in-Ok-clause-ends_by_arm g c change arm of sure clean armed = (returns-in-Ok-clause-armed g c change arm of armed).0

-- ---- the disk stopped

pub returns-in-Err-Stopped-clause-kept_by_arm : goal.returns-in-Err-Stopped-clause-kept_by_arm
returns-in-Err-Stopped-clause-kept_by_arm g c change arm of is clean armed =
    let old = c.args.self.now in
    let rest = c.requires.at_rest in
    let delta = option_copied c.delta.result in
    let plans = c.in_ok-plan.ensures.planned in
    let changes = c.delta.ensures old.replica (step old.replica.identity plans.event old.replica.state) plans.plans in
    let one : Some change ≡ delta = one_change c.args.table.now c.args.input old.replica plans.event delta (Some change) plans.event_is changes of in
    let failed : c.keep.result ≡ Err Node.Stopped = c.in-Err-Stopped.is ∙ ap Err c.in-Err-Stopped.field-0-is in
    let stops : IsErrOf c.keep.result Node.Stopped = subst (λ (r : Result Unit NodeFault). IsErrOf r Node.Stopped) (sym failed) refl in
    let told = g.D.Disk.view.told c.keep.new.self.disk in
    subst (λ (size : TableSize). LeavesByArm size (area_of old.store) old.replica.state.kept change arm told) rest.size
    (subst (λ (state : State). LeavesByArm old.store.size (area_of old.store) state.kept change arm told) c.plan.ensures.alike.state
    (c.keep.ensures.kept_by_arm change arm (sym one) stops clean armed))

pub returns-in-Err-Stopped-clause-stopped : goal.returns-in-Err-Stopped-clause-stopped
returns-in-Err-Stopped-clause-stopped g c some is =
    let old = c.args.self.now in
    let now = c.plan.new.self in
    let table = c.args.table.now in
    let rest = c.requires.at_rest in
    let planned = c.plan.new.planned in
    let delta = option_copied c.delta.result in
    let plans = c.in_ok-plan.ensures.planned in
    let changes = c.delta.ensures old.replica (step old.replica.identity plans.event old.replica.state) plans.plans in
    let node = record c.keep.new.self { stopped = Some planned } in
    let alike : IsSameReplica node.replica old.replica = subst (λ (r : ReplicaState). IsSameReplica r old.replica) (sym c.keep.ensures.replica) c.plan.ensures.alike in
    let failed : c.keep.result ≡ Err Node.Stopped = c.in-Err-Stopped.is ∙ ap Err c.in-Err-Stopped.field-0-is in
    let stops : IsErrOf c.keep.result Node.Stopped = subst (λ (r : Result Unit NodeFault). IsErrOf r Node.Stopped) (sym failed) refl in
    let own = rest.keeps in
    let mid = record old { replica = now } in
    let stand : StandFor old.store.size (records_of old.store) now.state.kept own.0 = rw c.plan.ensures.alike.state own.1 in
    stopped_within g.D.Disk.view table c.args.input old.replica node planned delta
    (c.keep.ensures.ended (subst (λ (r : Result Unit NodeFault). EndsRun r) (sym failed) tt)) refl alike rest.of_table c.requires.small
    (subst (λ (r : ReplicaState). CanTake table r planned) (sym c.keep.ensures.replica) c.in_ok-plan.ensures.can) plans changes (c.keep.ensures.changed stops)
    (λ change is_change. subst (λ (r : ReplicaState). ChangeMayFollow (table_size table) r.state.kept change) (sym c.keep.ensures.replica)
    (change_follows table c.args.input old.replica now planned delta change (few_members old.replica.identity.me old.replica.identity.members rest.member rest.few) rest.coherent rest.of_table c.plan.ensures.alike plans c.in_ok-plan.ensures.can changes is_change))
    (λ change is_change. planned_alters old.replica node.replica plans.event delta change (few_members old.replica.identity.me old.replica.identity.members rest.member rest.few) alike changes is_change)
    (tells_stopped (disk_calls_for mid own.0 delta) c.keep.result (g.D.Disk.view.told old.disk) (g.D.Disk.view.told node.disk) some stops (c.keep.ensures.told own.0 stand))
    (λ honest. subst (λ (r : ReplicaState). IsRecoverable (table_size table) r.state.kept (kept_after delta r.state.kept) (g.D.Disk.view.may_leave node.disk)) (sym c.keep.ensures.replica)
    (subst (λ (size : TableSize). IsRecoverable size now.state.kept (kept_after delta now.state.kept) (g.D.Disk.view.may_leave node.disk)) rest.size (c.keep.ensures.recoverable (c.keep.ensures.answer.honest_still.0 honest))))

pub returns-in-Err-Stopped-clause-images : goal.returns-in-Err-Stopped-clause-images
returns-in-Err-Stopped-clause-images g c honest =
    let old = c.args.self.now in
    let now = c.plan.new.self in
    let table = c.args.table.now in
    let size = old.store.size in
    let delta = option_copied c.delta.result in
    let plans = c.in_ok-plan.ensures.planned in
    let told = c.delta.ensures old.replica (step old.replica.identity plans.event old.replica.state) plans.plans in
    leaves_weaker g.D.Disk.view old.disk c.keep.new.self.disk (FilesStandForEither size now.state.kept (kept_after delta now.state.kept)) (FilesStandAround table c.args.input old.replica)
    (either_around table c.args.input old.replica now size delta plans.event plans.event_is c.plan.ensures.alike c.requires.at_rest.size told) (c.keep.ensures.images honest)

pub returns-in-Err-Stopped-clause-recoverable : goal.returns-in-Err-Stopped-clause-recoverable
returns-in-Err-Stopped-clause-recoverable g c honest ends =
    let old = c.args.self.now in
    let plans = c.in_ok-plan.ensures.planned in
    let told = c.delta.ensures old.replica (step old.replica.identity plans.event old.replica.state) plans.plans in
    recoverable_around c.args.table.now c.args.input old.replica c.plan.new.self old.store.size (option_copied c.delta.result) plans.event (g.D.Disk.view.may_leave c.keep.new.self.disk) plans.event_is c.plan.ensures.alike c.requires.at_rest.size
    told (c.keep.ensures.recoverable honest)

pub returns-in-Err-Stopped-clause-told : goal.returns-in-Err-Stopped-clause-told
returns-in-Err-Stopped-clause-told g c =
    let old = c.args.self.now in
    let now = record old { replica = c.plan.new.self } in
    let delta = option_copied c.delta.result in
    let plans = c.in_ok-plan.ensures.planned in
    let told = c.delta.ensures old.replica (step old.replica.identity plans.event old.replica.state) plans.plans in
    told_of_step c.args.table.now c.args.input old now plans.event delta (Err Node.Stopped) (g.D.Disk.view.told old.disk) (g.D.Disk.view.told c.keep.new.self.disk) plans.event_is told c.plan.ensures.alike refl
    (λ own stand. told_failed {U = StepOut} (disk_calls_for now own delta) Node.Stopped c.keep.result (Err Node.Stopped) (c.in-Err-Stopped.is ∙ ap Err c.in-Err-Stopped.field-0-is) refl (g.D.Disk.view.told old.disk) (g.D.Disk.view.told c.keep.new.self.disk)
    (c.keep.ensures.told own stand))

pub returns-in-Err-Stopped-clause-too_few : goal.returns-in-Err-Stopped-clause-too_few
returns-in-Err-Stopped-clause-too_few g c change arm of is clean armed =
    let old = c.args.self.now in
    let own = c.requires.at_rest.keeps in
    tells_too_few StepOut (area_of old.store) (disk_calls_for old own.0 change) (calls_of_change change) arm (g.D.Disk.view.told old.disk) (g.D.Disk.view.told c.keep.new.self.disk) (count_calls old own.0 change) clean armed
    (returns-in-Err-Stopped-clause-told g c own.0 change own.1 of)

pub returns-in-Err-Stopped-clause-unfailing : goal.returns-in-Err-Stopped-clause-unfailing
returns-in-Err-Stopped-clause-unfailing g c sure =
    subst (λ (r : Result Unit NodeFault). IsUnfailingAfter r (g.D.Disk.view.told c.keep.new.self.disk)) (c.in-Err-Stopped.is ∙ ap Err c.in-Err-Stopped.field-0-is) (c.keep.ensures.unfailing sure)

pub returns-in-Err-Stopped-clause-ends_by_arm : goal.returns-in-Err-Stopped-clause-ends_by_arm
returns-in-Err-Stopped-clause-ends_by_arm g c change arm of sure clean armed = returns-in-Err-Stopped-clause-too_few g c change arm of refl clean armed

-- ---- another fault

pub returns-in-Err-clause-images : goal.returns-in-Err-clause-images
returns-in-Err-clause-images g c honest =
    let old = c.args.self.now in
    let now = c.plan.new.self in
    let table = c.args.table.now in
    let size = old.store.size in
    let delta = option_copied c.delta.result in
    let plans = c.in_ok-plan.ensures.planned in
    let told = c.delta.ensures old.replica (step old.replica.identity plans.event old.replica.state) plans.plans in
    leaves_weaker g.D.Disk.view old.disk c.keep.new.self.disk (FilesStandForEither size now.state.kept (kept_after delta now.state.kept)) (FilesStandAround table c.args.input old.replica)
    (either_around table c.args.input old.replica now size delta plans.event plans.event_is c.plan.ensures.alike c.requires.at_rest.size told) (c.keep.ensures.images honest)

pub returns-in-Err-clause-recoverable : goal.returns-in-Err-clause-recoverable
returns-in-Err-clause-recoverable g c honest ends =
    let old = c.args.self.now in
    let plans = c.in_ok-plan.ensures.planned in
    let told = c.delta.ensures old.replica (step old.replica.identity plans.event old.replica.state) plans.plans in
    recoverable_around c.args.table.now c.args.input old.replica c.plan.new.self old.store.size (option_copied c.delta.result) plans.event (g.D.Disk.view.may_leave c.keep.new.self.disk) plans.event_is c.plan.ensures.alike c.requires.at_rest.size
    told (c.keep.ensures.recoverable honest)

pub returns-in-Err-clause-refused : goal.returns-in-Err-clause-refused
returns-in-Err-clause-refused g c refused =
    let old = c.args.self.now in
    let new = c.keep.new.self in
    let alike : IsSameReplica new.replica old.replica = subst (λ (now : ReplicaState). IsSameReplica now old.replica) (sym c.keep.ensures.replica) c.plan.ensures.alike in
    let memory = c.keep.ensures.memory (memory_below {U = StepOut} c.in-Err.fault c.keep.result (Err c.in-Err.fault) c.in-Err.is refl c.keep.ensures.no_letter refused) in
    at_rest_still g.D.Disk.view c.args.table.now old new c.requires.at_rest alike memory.0 c.keep.ensures.size c.keep.ensures.format memory.1 (rw c.keep.ensures.replica memory.2)

pub returns-in-Err-clause-told : goal.returns-in-Err-clause-told
returns-in-Err-clause-told g c =
    let old = c.args.self.now in
    let now = record old { replica = c.plan.new.self } in
    let delta = option_copied c.delta.result in
    let plans = c.in_ok-plan.ensures.planned in
    let told = c.delta.ensures old.replica (step old.replica.identity plans.event old.replica.state) plans.plans in
    told_of_step c.args.table.now c.args.input old now plans.event delta (Err c.in-Err.fault) (g.D.Disk.view.told old.disk) (g.D.Disk.view.told c.keep.new.self.disk) plans.event_is told c.plan.ensures.alike refl
    (λ own stand. told_failed {U = StepOut} (disk_calls_for now own delta) c.in-Err.fault c.keep.result (Err c.in-Err.fault) c.in-Err.is refl (g.D.Disk.view.told old.disk) (g.D.Disk.view.told c.keep.new.self.disk)
    (c.keep.ensures.told own stand))

pub returns-in-Err-clause-unfailing : goal.returns-in-Err-clause-unfailing
returns-in-Err-clause-unfailing g c sure =
    unfailing_handed StepOut c.in-Err.fault c.keep.result (g.D.Disk.view.told c.keep.new.self.disk) c.in-Err.is (c.keep.ensures.unfailing sure)

pub returns-in-Err-clause-ends_by_arm : goal.returns-in-Err-clause-ends_by_arm
returns-in-Err-clause-ends_by_arm g c change arm of sure clean armed =
    let old = c.args.self.now in
    let own = c.requires.at_rest.keeps in
    let told = g.D.Disk.view.told c.keep.new.self.disk in
    let calls = disk_calls_for old own.0 change in
    let made = returns-in-Err-clause-told g c own.0 change own.1 of in
    ends_by_arm StepOut (calls_of_change change) arm.left c.in-Err.fault told (returns-in-Err-clause-unfailing g c sure)
    (λ is. tells_too_few StepOut (area_of old.store) calls (calls_of_change change) arm (g.D.Disk.view.told old.disk) told (count_calls old own.0 change) clean armed
    (subst (λ (f : NodeFault). TellsThen (MadeCalls {T = StepOut} of_disk_answer calls (Err f)) (g.D.Disk.view.told old.disk) told) is made))
    (λ gate is. c.keep.ensures.undamaged gate (c.in-Err.is ∙ ap Err is))
    (λ letter is. c.keep.ensures.no_letter letter (c.in-Err.is ∙ ap Err is))

-- ---- the step isn't planned

pub returns-in_err-plan-clause-unfailing : goal.returns-in_err-plan-clause-unfailing
returns-in_err-plan-clause-unfailing g c sure =
    unfailing_planned c.in_err-plan.field-0.0 c.from_residual.result (g.D.Disk.view.told c.args.self.now.disk) c.from_residual.ensures.1 sure

pub returns-in_err-plan-clause-ends_by_arm : goal.returns-in_err-plan-clause-ends_by_arm
returns-in_err-plan-clause-ends_by_arm g c change arm of sure clean armed =
    let old = c.args.self.now.replica in
    planned_ends (calls_of_change change) arm.left old.identity.members c.args.input c.in_err-plan.field-0.0 c.plan.result c.from_residual.result c.in_err-plan.was c.from_residual.ensures.1 c.plan.ensures.fault
    (no_fault_in c.args.table.now old c.args.input of.event of.event_is)
