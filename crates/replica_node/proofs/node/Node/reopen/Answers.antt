use Rattle.std.proofs.Common.{Err, sym, ap, ◌∙◌, subst}
use Rattle.paxos_base.specs.declared.rows.TableSize.{TableSize}
use Rattle.launch_machine.specs.Clerk.{table_size}
use Rattle.disk_model.specs.Told.{image_left}
use Rattle.paxos_base.specs.Durable.{after_delta}
use Rattle.paxos_base.specs.declared.durable.Durable.{Durable}
use Rattle.store_format.specs.Area.{IsFirstRecordAtFault}
use Rattle.replica_store.specs.Files.{FilesStand, IsRecoverable, selected}
use Rattle.replica_node.proofs.FaultLemmas.{same_fault}
use Rattle.replica_node.proofs.ReopenLemmas.{Reopens, change_or_none, found_recoverable, found_stands, lost_answer, not_both, planned_as, reopens, tells_answer, tells_area}
use Rattle.replica_node.specs.declared.node.Node.{Node}
use Rattle.replica_node.proofs.ReliableLemmas.{ends_handed, memory_left}
use Rattle.replica_node.proofs.node.Node.reopen.Goals as goal

-- ---- it is attached

pub returns-in-Ok-clause-change : goal.returns-in-Ok-clause-change
returns-in-Ok-clause-change g c stop =
    let planned = planned_as c.args.table.now c.args.self.replica c.in-Some.planned stop.planned stop.change c.args.self.stopped c.in-Some.is stop.is_cut_short stop.has_planned in
    change_or_none stop.change c.in-Ok.kept c.take_kept-change.result (c.take_kept-change.ensures.answer stop.change planned)

pub returns-in-Ok-clause-kept : goal.returns-in-Ok-clause-kept
returns-in-Ok-clause-kept g c =
    let stop = c.requires.stopped in
    let planned = planned_as c.args.table.now c.args.self.replica c.in-Some.planned stop.planned stop.change c.args.self.stopped c.in-Some.is stop.is_cut_short stop.has_planned in
    c.take_kept-change.ensures.kept stop.change planned

pub returns-in-Ok-clause-recoverable : goal.returns-in-Ok-clause-recoverable
returns-in-Ok-clause-recoverable g c honest =
    let stop = c.requires.stopped in
    let before = c.args.self.replica.state.kept in
    let after = after_delta stop.change before in
    let size = table_size c.args.table.now in
    let disk = c.attach_stopped.new.disk in
    let count = c.table_size.ensures.size in
    let found = c.in-Ok.kept in
    let store = c.in-Ok.store in
    let now = c.take_kept-change.new.replica.state.kept in
    let planned = planned_as c.args.table.now c.args.self.replica c.in-Some.planned stop.planned stop.change c.args.self.stopped c.in-Some.is stop.is_cut_short stop.has_planned in
    let recoverable : IsRecoverable c.table_size.result before after (g.D.Disk.view.may_leave c.args.self.disk) = rw count (stop.recoverable honest) in
    let facts : Reopens size before found now stop.change c.take_kept-change.result =
    reopens size before found now stop.change c.take_kept-change.result store c.in-Ok.ensures.keeps stop.has_planned.follows (c.in-Ok.ensures.either before after honest recoverable)
    (c.take_kept-change.ensures.answer stop.change planned) (c.take_kept-change.ensures.kept stop.change planned) in
    let still = c.attach_stopped.ensures.answer.honest_still.1 honest in
    let here : IsRecoverable size now now (g.D.Disk.view.may_leave disk) =
    found_recoverable g.D.Disk.view disk store size found now c.in-Ok.ensures.rests c.in-Ok.ensures.keeps (c.in-Ok.ensures.size ∙ count) facts.same still in
    here

pub returns-in-Ok-clause-stand : goal.returns-in-Ok-clause-stand
returns-in-Ok-clause-stand g c honest =
    let stop = c.requires.stopped in
    let before = c.args.self.replica.state.kept in
    let after = after_delta stop.change before in
    let size = table_size c.args.table.now in
    let disk = c.attach_stopped.new.disk in
    let count = c.table_size.ensures.size in
    let found = c.in-Ok.kept in
    let store = c.in-Ok.store in
    let now = c.take_kept-change.new.replica.state.kept in
    let planned = planned_as c.args.table.now c.args.self.replica c.in-Some.planned stop.planned stop.change c.args.self.stopped c.in-Some.is stop.is_cut_short stop.has_planned in
    let recoverable : IsRecoverable c.table_size.result before after (g.D.Disk.view.may_leave c.args.self.disk) = rw count (stop.recoverable honest) in
    let facts : Reopens size before found now stop.change c.take_kept-change.result =
    reopens size before found now stop.change c.take_kept-change.result store c.in-Ok.ensures.keeps stop.has_planned.follows (c.in-Ok.ensures.either before after honest recoverable)
    (c.take_kept-change.ensures.answer stop.change planned) (c.take_kept-change.ensures.kept stop.change planned) in
    let still = c.attach_stopped.ensures.answer.honest_still.1 honest in
    let here : IsRecoverable size now now (g.D.Disk.view.may_leave disk) =
    found_recoverable g.D.Disk.view disk store size found now c.in-Ok.ensures.rests c.in-Ok.ensures.keeps (c.in-Ok.ensures.size ∙ count) facts.same still in
    found_stands size now (g.D.Disk.view.may_leave disk) (g.D.Disk.view.seen disk) here (g.met.D.Disk.seen_is_left disk still)

pub returns-in-Ok-clause-image : goal.returns-in-Ok-clause-image
returns-in-Ok-clause-image g c told honest is =
    let stop = c.requires.stopped in
    let before = c.args.self.replica.state.kept in
    let after = after_delta stop.change before in
    let size = table_size c.args.table.now in
    let disk = c.attach_stopped.new.disk in
    let count = c.table_size.ensures.size in
    let found = c.in-Ok.kept in
    let store = c.in-Ok.store in
    let now = c.take_kept-change.new.replica.state.kept in
    let planned = planned_as c.args.table.now c.args.self.replica c.in-Some.planned stop.planned stop.change c.args.self.stopped c.in-Some.is stop.is_cut_short stop.has_planned in
    let recoverable : IsRecoverable c.table_size.result before after (g.D.Disk.view.may_leave c.args.self.disk) = rw count (stop.recoverable honest) in
    let facts : Reopens size before found now stop.change c.take_kept-change.result =
    reopens size before found now stop.change c.take_kept-change.result store c.in-Ok.ensures.keeps stop.has_planned.follows (c.in-Ok.ensures.either before after honest recoverable)
    (c.take_kept-change.ensures.answer stop.change planned) (c.take_kept-change.ensures.kept stop.change planned) in
    let still = c.attach_stopped.ensures.answer.honest_still.1 honest in
    let here : IsRecoverable size now now (g.D.Disk.view.may_leave disk) =
    found_recoverable g.D.Disk.view disk store size found now c.in-Ok.ensures.rests c.in-Ok.ensures.keeps (c.in-Ok.ensures.size ∙ count) facts.same still in
    subst (λ (k : Durable). FilesStand size k (image_left told)) (sym facts.same) (subst (λ (n : TableSize). FilesStand n found (image_left told)) count (c.in-Ok.ensures.image told is))

pub returns-in-Ok-clause-answer_by_arm : goal.returns-in-Ok-clause-answer_by_arm
returns-in-Ok-clause-answer_by_arm g c stop area arm honest left =
    let before = c.args.self.replica.state.kept in
    let after = after_delta stop.change before in
    let size = table_size c.args.table.now in
    let count = c.table_size.ensures.size in
    let found = c.in-Ok.kept in
    let now = c.take_kept-change.new.replica.state.kept in
    let planned = planned_as c.args.table.now c.args.self.replica c.in-Some.planned stop.planned stop.change c.args.self.stopped c.in-Some.is stop.is_cut_short stop.has_planned in
    let recoverable : IsRecoverable c.table_size.result before after (g.D.Disk.view.may_leave c.args.self.disk) = rw count (stop.recoverable honest) in
    let decided = c.take_kept-change.ensures.answer stop.change planned in
    let kept = c.take_kept-change.ensures.kept stop.change planned in
    let facts : Reopens size before found now stop.change c.take_kept-change.result =
    reopens size before found now stop.change c.take_kept-change.result c.in-Ok.store c.in-Ok.ensures.keeps stop.has_planned.follows (c.in-Ok.ensures.either before after honest recoverable) decided kept in
    tells_answer size area before found now stop.change arm c.take_kept-change.result (g.D.Disk.view.told c.args.self.disk) facts kept (λ told is. returns-in-Ok-clause-image g c told honest is)
    (change_or_none stop.change found c.take_kept-change.result decided) left

pub returns-in-Ok-clause-lost_by_arm : goal.returns-in-Ok-clause-lost_by_arm
returns-in-Ok-clause-lost_by_arm g c stop area arm honest left anew loses =
    lost_answer area c.args.self.replica.state.kept stop.change arm c.take_kept-change.result (returns-in-Ok-clause-answer_by_arm g c stop area arm honest left) (stop.has_planned.alters anew) loses

pub returns-in-Ok-clause-area : goal.returns-in-Ok-clause-area
returns-in-Ok-clause-area g c told is none = c.in-Ok.ensures.rests.selects ∙ c.in-Ok.ensures.area told is (rw c.table_size.ensures.size none)

pub returns-in-Ok-clause-area_by_arm : goal.returns-in-Ok-clause-area_by_arm
returns-in-Ok-clause-area_by_arm g c stop area arm honest left =
    let before = c.args.self.replica.state.kept in
    let planned = planned_as c.args.table.now c.args.self.replica c.in-Some.planned stop.planned stop.change c.args.self.stopped c.in-Some.is stop.is_cut_short stop.has_planned in
    tells_area (table_size c.args.table.now) area before stop.change arm c.take_kept-change.result (g.D.Disk.view.told c.args.self.disk) (selected (g.D.Disk.view.seen c.attach_stopped.new.disk)) stop.has_planned.follows left
    (returns-in-Ok-clause-answer_by_arm g c stop area arm honest left) (change_or_none stop.change c.in-Ok.kept c.take_kept-change.result (c.take_kept-change.ensures.answer stop.change planned))
    (returns-in-Ok-clause-area g c)

pub returns-in-Ok-clause-lost : goal.returns-in-Ok-clause-lost
returns-in-Ok-clause-lost g c stop honest none =
    let before = c.args.self.replica.state.kept in
    let after = after_delta stop.change before in
    let size = table_size c.args.table.now in
    let disk = c.attach_stopped.new.disk in
    let count = c.table_size.ensures.size in
    let found = c.in-Ok.kept in
    let store = c.in-Ok.store in
    let now = c.take_kept-change.new.replica.state.kept in
    let planned = planned_as c.args.table.now c.args.self.replica c.in-Some.planned stop.planned stop.change c.args.self.stopped c.in-Some.is stop.is_cut_short stop.has_planned in
    let recoverable : IsRecoverable c.table_size.result before after (g.D.Disk.view.may_leave c.args.self.disk) = rw count (stop.recoverable honest) in
    let facts : Reopens size before found now stop.change c.take_kept-change.result =
    reopens size before found now stop.change c.take_kept-change.result store c.in-Ok.ensures.keeps stop.has_planned.follows (c.in-Ok.ensures.either before after honest recoverable)
    (c.take_kept-change.ensures.answer stop.change planned) (c.take_kept-change.ensures.kept stop.change planned) in
    let still = c.attach_stopped.ensures.answer.honest_still.1 honest in
    let here : IsRecoverable size now now (g.D.Disk.view.may_leave disk) =
    found_recoverable g.D.Disk.view disk store size found now c.in-Ok.ensures.rests c.in-Ok.ensures.keeps (c.in-Ok.ensures.size ∙ count) facts.same still in
    not_both size found now after (g.D.Disk.view.seen disk) facts.same (facts.lost none) (found_stands size now (g.D.Disk.view.may_leave disk) (g.D.Disk.view.seen disk) here (g.met.D.Disk.seen_is_left disk still))

pub returns-in-Ok-clause-still_recoverable : goal.returns-in-Ok-clause-still_recoverable
returns-in-Ok-clause-still_recoverable g c stop honest =
    let before = c.args.self.replica.state.kept in
    let after = after_delta stop.change before in
    rw (← c.table_size.ensures.size) (c.attach_stopped.ensures.recoverable before after honest (rw c.table_size.ensures.size (stop.recoverable honest)))

-- ---- it is not

pub returns-clause-still_recoverable : goal.returns-clause-still_recoverable
returns-clause-still_recoverable g c stop honest =
    let before = c.args.self.replica.state.kept in
    let after = after_delta stop.change before in
    rw (← c.table_size.ensures.size) (c.attach_stopped.ensures.recoverable before after honest (rw c.table_size.ensures.size (stop.recoverable honest)))

pub returns-clause-sound : goal.returns-clause-sound
returns-clause-sound g c gate honest is =
    let stop = c.requires.stopped in
    let before = c.args.self.replica.state.kept in
    let after = after_delta stop.change before in
    c.attach_stopped.ensures.sound before after gate honest (rw c.table_size.ensures.size (stop.recoverable honest)) (c.in-Err.is ∙ ap Err (same_fault c.in-Err.fault _ is))

pub returns-clause-damaged : goal.returns-clause-damaged
returns-clause-damaged g c gate bodies is has =
    subst (λ (n : TableSize). IsFirstRecordAtFault n bodies gate) c.table_size.ensures.size (c.attach_stopped.ensures.damaged gate bodies (c.in-Err.is ∙ ap Err (same_fault c.in-Err.fault _ is)) has)

pub returns-clause-unended : goal.returns-clause-unended
returns-clause-unended g c sure ends =
    c.attach_stopped.ensures.unended sure (ends_handed (Node g.row.D.Denot) c.in-Err.fault c.attach_stopped.result c.in-Err.is ends)

pub returns-clause-memory_alone : goal.returns-clause-memory_alone
returns-clause-memory_alone g c fault honest sure is =
    let other = c.in-Err.fault in
    sym (same_fault other fault is)
    ∙ memory_left Unit other (λ ends. c.attach_stopped.ensures.unended sure (ends_handed Unit other c.attach_stopped.result c.in-Err.is ends)) (λ gate damaged. returns-clause-sound g c gate honest (ap Err damaged))
    (λ letter read. c.attach_stopped.ensures.no_letter letter (c.in-Err.is ∙ ap Err read))
