use Rattle.replica_store.proofs.FaultLemmas.{damaged_below, not_memory}
use Rattle.paxos_base.specs.Durable.{after_delta}
use Rattle.paxos_base.specs.declared.durable.Durable.{Durable}
use Rattle.paxos_base.specs.declared.rows.JobRow.{JobRow}
use Rattle.paxos_base.specs.declared.durable.Delta.TheVariants.{Base}
use Rattle.store_format.specs.Area.{StandFor}
use Rattle.std.proofs.Common.{◌≡◌, ℕ, List, [], map, Ok, Err, refl, sym, ap, ◌∙◌, subst}
use Rattle.disk_model.specs.Made.{MadeCalls}
use Rattle.disk_model.specs.Told.{TellsThen}
use Rattle.disk_model.proofs.MadeLemmas.{made_all, made_done, made_sooner, tells_weaker}
use Rattle.gate_file.specs.Faults.{gate_fault_of}
use Rattle.gate_file.specs.Made.{rewrite_calls}
use Rattle.store_format.specs.Area.{BeginsInFormat1, base_records}
use Rattle.store_format.specs.Beside.{beside}
use Rattle.store_format.specs.Records.{record_bytes}
use Rattle.replica_store.specs.Faults.{of_disk}
use Rattle.replica_store.specs.Files.{other_area}
use Rattle.replica_store.specs.Store.{area_of}
use Rattle.replica_store.proofs.MadeLemmas.{base_is_spelled, gates_handed}
use Rattle.replica_store.proofs.store.Store.write_area.Goals as goal

-- what the store keeps can be read
pub returns-in_err-kept-clause-undamaged : goal.returns-in_err-kept-clause-undamaged
returns-in_err-kept-clause-undamaged g c gate damaged =
    let fault = c.in_err-kept.field-0.0 in
    let keeps = c.requires.rests.keeps in
    let stand = subst (λ bodies. StandFor c.args.self.now.size bodies keeps.0 keeps.1.0) (sym c.bodies.ensures) keeps.1.1 in
    not_memory fault gate (c.in_err-kept.ensures.only keeps.0 keeps.1.0 stand) (damaged_below fault gate c.from_residual.result c.from_residual.ensures.1 damaged)

-- ---- which calls were done

pub returns-in_err-rewrite-clause-told : goal.returns-in_err-rewrite-clause-told
returns-in_err-rewrite-clause-told g c kept own stand =
    let store = c.args.self.now in
    let slot = c.args.slot in
    let rows = c.args.rows.now in
    let old = g.D.Disk.view.told c.args.disk.now in
    let new = g.D.Disk.view.told c.rewrite.new.disk in
    let same = c.in_ok-kept.ensures.only kept own (subst (λ bodies. StandFor store.size bodies kept own) (sym c.bodies.ensures) stand) in
    let other : c.other_area-other.result ≡ other_area (area_of store) = c.other_area-other.ensures ∙ ap other_area c.file.ensures in
    let items : c.in_ok-bodies.bodies.items ≡ map record_bytes (base_records kept own slot rows) =
    c.in_ok-bodies.ensures.bodies ∙ ap (λ k. map record_bytes (base_records k c.in_ok-kept.own slot rows)) same.0 ∙ ap (λ o. map record_bytes (base_records kept o slot rows)) same.1 in
    let given = c.in_err-rewrite.field-0.0 in
    let result = c.from_residual-in_err-rewrite.result in
    subst (λ no. TellsThen (MadeCalls of_disk (rewrite_calls no (map record_bytes (base_records kept own slot rows))) result) old new) other
    (subst (λ bodies. TellsThen (MadeCalls of_disk (rewrite_calls c.other_area-other.result bodies) result) old new) items
    (tells_weaker (made_sooner gate_fault_of of_disk (rewrite_calls c.other_area-other.result c.in_ok-bodies.bodies.items) [] (Err given) result c.from_residual-in_err-rewrite.ensures.0
    (gates_handed result given c.from_residual-in_err-rewrite.ensures.1)) old new c.in_err-rewrite.ensures.told))

pub returns-clause-told : goal.returns-clause-told
returns-clause-told g c kept own stand =
    let store = c.args.self.now in
    let slot = c.args.slot in
    let rows = c.args.rows.now in
    let old = g.D.Disk.view.told c.args.disk.now in
    let new = g.D.Disk.view.told c.rewrite.new.disk in
    let same = c.in_ok-kept.ensures.only kept own (subst (λ bodies. StandFor store.size bodies kept own) (sym c.bodies.ensures) stand) in
    let other : c.other_area-other.result ≡ other_area (area_of store) = c.other_area-other.ensures ∙ ap other_area c.file.ensures in
    let items : c.in_ok-bodies.bodies.items ≡ map record_bytes (base_records kept own slot rows) =
    c.in_ok-bodies.ensures.bodies ∙ ap (λ k. map record_bytes (base_records k c.in_ok-kept.own slot rows)) same.0 ∙ ap (λ o. map record_bytes (base_records kept o slot rows)) same.1 in
    let all = tells_weaker (made_done gate_fault_of (rewrite_calls c.other_area-other.result c.in_ok-bodies.bodies.items) c.in_ok-rewrite.field-0) old new c.in_ok-rewrite.ensures.told in
    subst (λ no. TellsThen (MadeCalls of_disk (rewrite_calls no (map record_bytes (base_records kept own slot rows))) (Ok c.in_ok-rewrite.field-0)) old new) other
    (subst (λ bodies. TellsThen (MadeCalls of_disk (rewrite_calls c.other_area-other.result bodies) (Ok c.in_ok-rewrite.field-0)) old new) items
    (tells_weaker (made_all of_disk (rewrite_calls c.other_area-other.result c.in_ok-bodies.bodies.items) c.in_ok-rewrite.field-0) old new all))

-- ---- what is spelled

pub returns-in_err-rewrite-clause-stopped_spelled : goal.returns-in_err-rewrite-clause-stopped_spelled
returns-in_err-rewrite-clause-stopped_spelled g c kept own stand stopped =
    let store = c.args.self.now in
    let same = c.in_ok-kept.ensures.only kept own (subst (λ bodies. StandFor store.size bodies kept own) (sym c.bodies.ensures) stand) in
    base_is_spelled c.in_ok-bodies.bodies.items c.in_ok-kept.kept (beside c.in_ok-kept.kept.rows kept) c.in_ok-kept.own own c.args.slot c.args.rows.now c.in_ok-bodies.ensures.bodies c.in_ok-bodies.ensures.records same.0 same.1

pub returns-clause-spelled : goal.returns-clause-spelled
returns-clause-spelled g c kept own stand =
    let store = c.args.self.now in
    let same = c.in_ok-kept.ensures.only kept own (subst (λ bodies. StandFor store.size bodies kept own) (sym c.bodies.ensures) stand) in
    base_is_spelled c.in_ok-bodies.bodies.items c.in_ok-kept.kept (beside c.in_ok-kept.kept.rows kept) c.in_ok-kept.own own c.args.slot c.args.rows.now c.in_ok-bodies.ensures.bodies c.in_ok-bodies.ensures.records same.0 same.1

-- ---- what it stands for

-- a base brings its own rows
same_base : (slot : ℕ) (rows others : List JobRow) (kept : Durable) → after_delta (Base slot rows) (beside others kept) ≡ after_delta (Base slot rows) kept
unfolding after_delta
same_base slot rows others kept = refl

pub returns-clause-stand : goal.returns-clause-stand
returns-clause-stand g c kept keeps =
    let store = c.args.self.now in
    let slot = c.args.slot in
    let rows = c.args.rows.now in
    let own = c.in_ok-kept.own in
    let stand = subst (λ bodies. StandFor store.size bodies kept keeps.0) (sym c.bodies.ensures) keeps.1 in
    let same = c.in_ok-kept.ensures.only kept keeps.0 stand in
    let written = c.in_ok-bodies.ensures.stand store.size (c.in_ok-kept.ensures.sound kept keeps.0 stand) c.requires.rows in (
      own,
      subst (λ bodies. StandFor store.size bodies (after_delta (Base slot rows) kept) own) (sym c.in_ok-rewrite.ensures.bodies)
          (subst (λ after. StandFor store.size c.in_ok-bodies.bodies.items after own)
          (ap (after_delta (Base slot rows)) same.0 ∙ same_base slot rows c.in_ok-kept.kept.rows kept) written),
    )

-- ---- its format

pub returns-clause-format : goal.returns-clause-format
returns-clause-format g c begins =
    let size = c.args.self.now.size in
    c.in_ok-bodies.ensures.format size c.requires.rows (subst (BeginsInFormat1 size) c.in_ok-rewrite.ensures.bodies begins)
