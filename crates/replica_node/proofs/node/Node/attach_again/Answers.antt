use Rattle.std.proofs.Common.{◌≡◌, Err, Some, refl, sym, ap, ◌∙◌, subst}
use Rattle.std.proofs.lemmas.Result.{err_from_is_err_and}
use Rattle.launch_machine.specs.Clerk.{table_size}
use Rattle.paxos_base.specs.declared.rows.TableSize.{TableSize}
use Rattle.disk_model.specs.Told.{Told, image_left}
use Rattle.gate_file.specs.File.{bodies_of}
use Rattle.paxos_base.specs.Durable.{after_delta}
use Rattle.paxos_base.specs.Rows.{RowsStand}
use Rattle.paxos_base.specs.declared.durable.Durable.{Durable}
use Rattle.step_spec.specs.Coherent.{IsCoherent}
use Rattle.step_spec.specs.State.{Identity, State}
use Rattle.step_spec.proofs.SoundLemmas.{start_sound}
use Rattle.replica_store.specs.Files.{FilesStand, IsRecoverable}
use Rattle.replica_store.specs.Store.{StoreKeeps, area_of}
use Rattle.replica_node.proofs.AttachedLemmas.{fit_to_start}
use Rattle.replica_node.proofs.FaultLemmas.{same_fault}
use Rattle.replica_node.proofs.ReliableLemmas.{ends_handed, memory_left}
use Rattle.replica_node.proofs.ReopenLemmas.{Reopens, change_or_none, lost_answer, planned_as, reopens, tells_answer, tells_area}
use Rattle.replica_node.proofs.node.Node.attach_again.Goals as goal

-- ---- the replica starts with what was found

pub start-requires-clause-rows : goal.start-requires-clause-rows
start-requires-clause-rows g c =
    let store = c.in_ok-store.store in
    let keeps = c.in_ok-store.ensures.keeps in
    let fit = fit_to_start store.size (bodies_of store.gates) c.in_ok-store.kept keeps.0 keeps.1 in
    subst (λ (size : TableSize). RowsStand c.in_ok-store.kept.rows size) (c.in_ok-store.ensures.size ∙ c.table_size.ensures.size) fit.rows

pub start-requires-clause-tried : goal.start-requires-clause-tried
start-requires-clause-tried g c =
    let store = c.in_ok-store.store in
    let keeps = c.in_ok-store.ensures.keeps in
    let fit = fit_to_start store.size (bodies_of store.gates) c.in_ok-store.kept keeps.0 keeps.1 in
    fit.tried

pub returns-clause-at_rest : goal.returns-clause-at_rest
returns-clause-at_rest g c =
    let store = c.in_ok-store.store in
    let kept = c.in_ok-store.kept in
    let keeps = c.in_ok-store.ensures.keeps in
    let replica = c.in_ok-self.field-0 in
    let self : Identity = record { me = c.args.me; members = c.args.members } in
    let fit = fit_to_start store.size (bodies_of store.gates) kept keeps.0 keeps.1 in
    let first : IsCoherent self replica.state = subst (λ (state : State). IsCoherent self state) (sym c.in_ok-self.ensures.state) (start_sound self kept fit.votes) in
    record {
      runs = refl;
      member = rw c.in_ok-self.ensures.identity c.requires.me;
      few = rw c.in_ok-self.ensures.identity c.requires.few;
      of_table = c.in_ok-self.ensures.of_table;
      coherent = subst (λ (identity : Identity). IsCoherent identity replica.state) (sym c.in_ok-self.ensures.identity) first;
      rests = c.in_ok-store.ensures.rests;
      size = c.in_ok-store.ensures.size ∙ c.table_size.ensures.size;
      format = c.in_ok-store.ensures.format;
      keeps = subst (λ (found : Durable). StoreKeeps store found) (sym (ap (λ (state : State). state.kept) c.in_ok-self.ensures.state)) keeps;
    }

-- ---- what it keeps

pub returns-clause-change : goal.returns-clause-change
returns-clause-change g c stop =
    let planned =
    planned_as c.args.table.now c.args.self.now.replica c.in-Some.planned stop.planned stop.change c.args.self.now.stopped (sym c.take.ensures.value ∙ c.in-Some.is) stop.is_cut_short stop.has_planned in
    change_or_none stop.change c.in_ok-store.kept c.take_kept-change.result (c.take_kept-change.ensures.answer stop.change planned)

pub returns-clause-kept : goal.returns-clause-kept
returns-clause-kept g c honest =
    let stop = c.requires.stopped in
    let before = c.args.self.now.replica.state.kept in
    let after = after_delta stop.change before in
    let found = c.in_ok-store.kept in
    let planned =
    planned_as c.args.table.now c.args.self.now.replica c.in-Some.planned stop.planned stop.change c.args.self.now.stopped (sym c.take.ensures.value ∙ c.in-Some.is) stop.is_cut_short stop.has_planned in
    let recoverable : IsRecoverable c.table_size.result before after (g.D.Disk.view.may_leave c.args.self.now.disk) = rw c.table_size.ensures.size (stop.recoverable honest) in
    let kept = c.take_kept-change.ensures.kept stop.change planned in
    let facts : Reopens (table_size c.args.table.now) before found c.take_kept-change.new.replica.state.kept stop.change c.take_kept-change.result =
    reopens (table_size c.args.table.now) before found c.take_kept-change.new.replica.state.kept stop.change c.take_kept-change.result c.in_ok-store.store c.in_ok-store.ensures.keeps stop.has_planned.follows
    (c.in_ok-store.ensures.either before after honest recoverable) (c.take_kept-change.ensures.answer stop.change planned) kept in
    ap (λ (state : State). state.kept) c.in_ok-self.ensures.state ∙ sym facts.same ∙ kept

pub returns-clause-answer_by_arm : goal.returns-clause-answer_by_arm
returns-clause-answer_by_arm g c stop area arm honest left =
    let before = c.args.self.now.replica.state.kept in
    let after = after_delta stop.change before in
    let size = table_size c.args.table.now in
    let found = c.in_ok-store.kept in
    let now = c.take_kept-change.new.replica.state.kept in
    let planned =
    planned_as c.args.table.now c.args.self.now.replica c.in-Some.planned stop.planned stop.change c.args.self.now.stopped (sym c.take.ensures.value ∙ c.in-Some.is) stop.is_cut_short stop.has_planned in
    let recoverable : IsRecoverable c.table_size.result before after (g.D.Disk.view.may_leave c.args.self.now.disk) = rw c.table_size.ensures.size (stop.recoverable honest) in
    let decided = c.take_kept-change.ensures.answer stop.change planned in
    let kept = c.take_kept-change.ensures.kept stop.change planned in
    let facts : Reopens size before found now stop.change c.take_kept-change.result =
    reopens size before found now stop.change c.take_kept-change.result c.in_ok-store.store c.in_ok-store.ensures.keeps stop.has_planned.follows (c.in_ok-store.ensures.either before after honest recoverable) decided
    kept in
    let image : (told : Told) → g.D.Disk.view.told c.args.self.now.disk ≡ Some told → FilesStand size now (image_left told) =
    λ told is. subst (λ (k : Durable). FilesStand size k (image_left told)) (sym facts.same) (subst (λ (n : TableSize). FilesStand n found (image_left told)) c.table_size.ensures.size (c.in_ok-store.ensures.image told is)) in
    tells_answer size area before found now stop.change arm c.take_kept-change.result (g.D.Disk.view.told c.args.self.now.disk) facts kept image (change_or_none stop.change found c.take_kept-change.result decided) left

pub returns-clause-lost_by_arm : goal.returns-clause-lost_by_arm
returns-clause-lost_by_arm g c stop area arm honest left anew loses =
    lost_answer area c.args.self.now.replica.state.kept stop.change arm c.take_kept-change.result (returns-clause-answer_by_arm g c stop area arm honest left) (stop.has_planned.alters anew) loses

pub returns-clause-area_by_arm : goal.returns-clause-area_by_arm
returns-clause-area_by_arm g c stop area arm honest left =
    let planned =
    planned_as c.args.table.now c.args.self.now.replica c.in-Some.planned stop.planned stop.change c.args.self.now.stopped (sym c.take.ensures.value ∙ c.in-Some.is) stop.is_cut_short stop.has_planned in
    tells_area (table_size c.args.table.now) area c.args.self.now.replica.state.kept stop.change arm c.take_kept-change.result (g.D.Disk.view.told c.args.self.now.disk) (area_of c.in_ok-store.store) stop.has_planned.follows
    left (returns-clause-answer_by_arm g c stop area arm honest left)
    (change_or_none stop.change c.in_ok-store.kept c.take_kept-change.result (c.take_kept-change.ensures.answer stop.change planned))
    (λ told is none. c.in_ok-store.ensures.area told is (rw c.table_size.ensures.size none))

-- ---- the disk isn't attached

pub returns-in_err-store-clause-memory_alone : goal.returns-in_err-store-clause-memory_alone
returns-in_err-store-clause-memory_alone g c fault honest sure is =
    let stop = c.requires.stopped in
    let before = c.args.self.now.replica.state.kept in
    let after = after_delta stop.change before in
    let recoverable : IsRecoverable c.table_size.result before after (g.D.Disk.view.may_leave c.args.self.now.disk) = rw c.table_size.ensures.size (stop.recoverable honest) in
    let other = c.in_err-store.field-0.0 in
    let gives = err_from_is_err_and c.from_residual.result c.from_residual.ensures.1 in
    let handed : c.from_residual.result ≡ Err other = gives.1 ∙ ap Err gives.2 in
    sym (same_fault other fault (sym handed ∙ is))
    ∙ memory_left Unit other (λ ends. c.attach_stopped.ensures.unended sure (ends_handed Unit other c.attach_stopped.result c.in_err-store.was ends))
    (λ gate damaged. c.attach_stopped.ensures.sound before after gate honest recoverable (c.in_err-store.was ∙ ap Err damaged)) (λ letter read. c.attach_stopped.ensures.no_letter letter (c.in_err-store.was ∙ ap Err read))
