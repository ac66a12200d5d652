use Rattle.std.proofs.Common.{◌≡◌, [], length, Some, Ok, Err, sym, ◌∙◌, subst}
use Rattle.disk_model.specs.Images.{Image, InFileOnly}
use Rattle.disk_model.proofs.RunLemmas.{now_in_run}
use Rattle.gate_file.specs.File.{bodies_of}
use Rattle.gate_file.specs.Gates.{IsStaged}
use Rattle.paxos_base.specs.Durable.{after_delta}
use Rattle.store_format.specs.Order.{ChangeMayFollow}
use Rattle.replica_store.specs.Files.{BodiesStand, FilesStandForEither, IsRecoverable}
use Rattle.replica_store.specs.declared.store.Store.{Store}
use Rattle.replica_store.specs.Store.{area_of, StoreKeeps}
use Rattle.replica_store.proofs.FaultLemmas.{gates_handed_on}
use Rattle.replica_store.proofs.SaveLemmas.{change_in_format_2, change_stands, run_stands, run_recoverable, append_recoverable, rests_in_area}
use Rattle.disk_model.specs.Made.{MadeCalls}
use Rattle.disk_model.specs.Told.{TellsThen}
use Rattle.disk_model.specs.View.{LeavesOnly}
use Rattle.std.specs.Prelude.{OnOk}
use Rattle.disk_model.proofs.MadeLemmas.{made_all, made_done, made_sooner, tells_weaker}
use Rattle.gate_file.specs.Faults.{gate_fault_of}
use Rattle.gate_file.specs.Made.{append_calls}
use Rattle.store_format.specs.Area.{BeginsInFormat1}
use Rattle.replica_store.specs.Faults.{of_disk}
use Rattle.replica_store.specs.Made.{area_after, save_calls}
use Rattle.replica_store.specs.Store.{records_of}
use Rattle.replica_store.proofs.MadeLemmas.{gates_handed, same_base_spelled, saves_record, stays_in_area}
use Rattle.replica_store.proofs.store.Store.save.Goals as goal

-- ---- a base

pub save_base-requires-clause-rows : goal.save_base-requires-clause-rows
save_base-requires-clause-rows g c =
    let keeps = c.requires.rests.keeps in
    (subst (ChangeMayFollow c.args.self.now.size keeps.0) c.in-Base.is (c.requires.follows keeps.0 keeps.1)).1

pub returns-in-Base-clause-keeps : goal.returns-in-Base-clause-keeps
returns-in-Base-clause-keeps g c kept keeps =
    subst (λ delta. OnOk c.save_base.result (StoreKeeps c.save_base.new.self (after_delta delta kept))) (sym c.in-Base.is) (c.save_base.ensures.keeps kept keeps)

pub returns-in-Base-clause-images : goal.returns-in-Base-clause-images
returns-in-Base-clause-images g c kept keeps honest =
    subst (λ delta. LeavesOnly g.D.Disk.view c.args.disk.now c.save_base.new.disk (FilesStandForEither c.args.self.now.size kept (after_delta delta kept))) (sym c.in-Base.is)
    (c.save_base.ensures.images kept keeps honest)

pub returns-in-Base-clause-recoverable : goal.returns-in-Base-clause-recoverable
returns-in-Base-clause-recoverable g c kept keeps honest =
    subst (λ delta. IsRecoverable c.args.self.now.size kept (after_delta delta kept) (g.D.Disk.view.may_leave c.save_base.new.disk)) (sym c.in-Base.is)
    (c.save_base.ensures.recoverable kept keeps honest)

pub returns-in-Base-clause-told : goal.returns-in-Base-clause-told
returns-in-Base-clause-told g c kept own stand =
    let store = c.args.self.now in
    subst (λ delta. TellsThen (MadeCalls of_disk (save_calls (area_of store) (length (records_of store)) kept own delta) c.save_base.result) (g.D.Disk.view.told c.args.disk.now) (g.D.Disk.view.told c.save_base.new.disk)) (sym c.in-Base.is)
    (c.save_base.ensures.told kept own stand)

pub returns-in-Base-clause-area : goal.returns-in-Base-clause-area
returns-in-Base-clause-area g c =
    subst (λ delta. OnOk c.save_base.result (area_of c.save_base.new.self ≡ area_after delta (area_of c.args.self.now))) (sym c.in-Base.is) c.save_base.ensures.area

pub returns-in-Base-clause-base_spelled : goal.returns-in-Base-clause-base_spelled
returns-in-Base-clause-base_spelled g c kept own slot rows stand is stopped =
    same_base_spelled c.args.delta.now kept own c.in-Base.slot slot c.in-Base.rows rows c.in-Base.is is (c.save_base.ensures.spelled kept own stand stopped)

pub returns-in-Base-clause-format : goal.returns-in-Base-clause-format
returns-in-Base-clause-format g c was = c.save_base.ensures.still was

-- ---- a record

pub returns-in_err-append-clause-images : goal.returns-in_err-append-clause-images
returns-in_err-append-clause-images g c kept keeps honest =
    let old = c.args.disk.now in
    let new = c.append.new.disk in
    let store = c.args.self.now in
    let after = after_delta c.args.delta.now kept in
    let body = c.record_bytes.result in
    let Q = InFileOnly (area_of store) (g.D.Disk.view.may_leave old) (IsStaged (bodies_of store.gates) (Some body)) in
    let stand = change_stands store.size (bodies_of store.gates) body c.in-Some.item kept c.args.delta.now keeps (c.requires.follows kept keeps) (sym c.delta_record.ensures ∙ c.in-Some.is) c.record_bytes.ensures.is_record in
    let recoverable = append_recoverable g.D.Disk.view old store c.requires.rests kept after body keeps honest stand in
    run_stands g.D.Disk.view store.size kept after old new Q recoverable (c.append.ensures.images honest)

pub returns-in_err-append-clause-recoverable : goal.returns-in_err-append-clause-recoverable
returns-in_err-append-clause-recoverable g c kept keeps honest =
    let old = c.args.disk.now in
    let new = c.append.new.disk in
    let store = c.args.self.now in
    let after = after_delta c.args.delta.now kept in
    let body = c.record_bytes.result in
    let Q = InFileOnly (area_of store) (g.D.Disk.view.may_leave old) (IsStaged (bodies_of store.gates) (Some body)) in
    let stand = change_stands store.size (bodies_of store.gates) body c.in-Some.item kept c.args.delta.now keeps (c.requires.follows kept keeps) (sym c.delta_record.ensures ∙ c.in-Some.is) c.record_bytes.ensures.is_record in
    let recoverable = append_recoverable g.D.Disk.view old store c.requires.rests kept after body keeps honest stand in
    run_recoverable g.D.Disk.view store.size kept after old new Q (λ start image le left. g.met.D.Disk.counts_now new start image (c.append.ensures.answer.honest_still.1 honest) le left) recoverable (c.append.ensures.images honest)

pub returns-clause-images : goal.returns-clause-images
returns-clause-images g c kept keeps honest =
    let old = c.args.disk.now in
    let new = c.append.new.disk in
    let store = c.args.self.now in
    let after = after_delta c.args.delta.now kept in
    let body = c.record_bytes.result in
    let Q = InFileOnly (area_of store) (g.D.Disk.view.may_leave old) (IsStaged (bodies_of store.gates) (Some body)) in
    let stand = change_stands store.size (bodies_of store.gates) body c.in-Some.item kept c.args.delta.now keeps (c.requires.follows kept keeps) (sym c.delta_record.ensures ∙ c.in-Some.is) c.record_bytes.ensures.is_record in
    let recoverable = append_recoverable g.D.Disk.view old store c.requires.rests kept after body keeps honest stand in
    run_stands g.D.Disk.view store.size kept after old new Q recoverable (c.append.ensures.images honest)

pub returns-clause-recoverable : goal.returns-clause-recoverable
returns-clause-recoverable g c kept keeps honest =
    let old = c.args.disk.now in
    let new = c.append.new.disk in
    let store = c.args.self.now in
    let after = after_delta c.args.delta.now kept in
    let body = c.record_bytes.result in
    let Q = InFileOnly (area_of store) (g.D.Disk.view.may_leave old) (IsStaged (bodies_of store.gates) (Some body)) in
    let stand = change_stands store.size (bodies_of store.gates) body c.in-Some.item kept c.args.delta.now keeps (c.requires.follows kept keeps) (sym c.delta_record.ensures ∙ c.in-Some.is) c.record_bytes.ensures.is_record in
    let recoverable = append_recoverable g.D.Disk.view old store c.requires.rests kept after body keeps honest stand in
    run_recoverable g.D.Disk.view store.size kept after old new Q (λ start image le left. g.met.D.Disk.counts_now new start image (c.append.ensures.answer.honest_still.1 honest) le left) recoverable (c.append.ensures.images honest)

pub returns-in_err-append-clause-memory : goal.returns-in_err-append-clause-memory
returns-in_err-append-clause-memory g c memory =
    let old = c.args.disk.now in
    let new = c.append.new.disk in
    let store = c.args.self.now in
    let now : Store = record { alloc = store.alloc; size = store.size; gates = c.append.new.self } in
    let keeps = c.requires.rests.keeps in
    let P = IsStaged (bodies_of store.gates) (Some c.record_bytes.result) in
    let only : g.D.Disk.view.honest old → (image : Image) → g.D.Disk.view.may_leave new image → InFileOnly (area_of store) (g.D.Disk.view.may_leave old) P image =
    λ is. now_in_run g.D.Disk.view old new (InFileOnly (area_of store) (g.D.Disk.view.may_leave old) P) (λ start image le left. g.met.D.Disk.counts_now new start image (c.append.ensures.answer.honest_still.1 is) le left) (c.append.ensures.images is) in
    let none = gates_handed_on c.in_err-append.field-0.0 c.append.result c.from_residual.result c.in_err-append.was c.from_residual.ensures.1 memory in
    rests_in_area g.D.Disk.view old store c.requires.rests new now P c.append.ensures.answer.honest_still.0 (c.append.ensures.memory none) c.append.ensures.file (c.append.ensures.memory_others none) only
    (keeps.0, subst (λ bodies. BodiesStand store.size bodies keeps.0) (sym c.in_err-append.ensures.kept) keeps.1)

pub returns-in_err-append-clause-memory_keeps : goal.returns-in_err-append-clause-memory_keeps
returns-in_err-append-clause-memory_keeps g c kept keeps memory = subst (λ bodies. BodiesStand c.args.self.now.size bodies kept) (sym c.in_err-append.ensures.kept) keeps

pub returns-clause-keeps : goal.returns-clause-keeps
returns-clause-keeps g c kept keeps =
    let store = c.args.self.now in
    subst (λ bodies. BodiesStand store.size bodies (after_delta c.args.delta.now kept)) (sym c.in_ok-append.ensures.bodies)
    (change_stands store.size (bodies_of store.gates) c.record_bytes.result c.in-Some.item kept c.args.delta.now keeps (c.requires.follows kept keeps) (sym c.delta_record.ensures ∙ c.in-Some.is) c.record_bytes.ensures.is_record)

pub returns-clause-rests : goal.returns-clause-rests
returns-clause-rests g c =
    let old = c.args.disk.now in
    let new = c.append.new.disk in
    let store = c.args.self.now in
    let now : Store = record { alloc = store.alloc; size = store.size; gates = c.append.new.self } in
    let keeps = c.requires.rests.keeps in
    let P = IsStaged (bodies_of store.gates) (Some c.record_bytes.result) in
    let only : g.D.Disk.view.honest old → (image : Image) → g.D.Disk.view.may_leave new image → InFileOnly (area_of store) (g.D.Disk.view.may_leave old) P image =
    λ is. now_in_run g.D.Disk.view old new (InFileOnly (area_of store) (g.D.Disk.view.may_leave old) P) (λ start image le left. g.met.D.Disk.counts_now new start image (c.append.ensures.answer.honest_still.1 is) le left) (c.append.ensures.images is) in
    let stand = change_stands store.size (bodies_of store.gates) c.record_bytes.result c.in-Some.item keeps.0 c.args.delta.now keeps.1 (c.requires.follows keeps.0 keeps.1) (sym c.delta_record.ensures ∙ c.in-Some.is) c.record_bytes.ensures.is_record in
    rests_in_area g.D.Disk.view old store c.requires.rests new now P c.append.ensures.answer.honest_still.0 c.in_ok-append.ensures.rests c.append.ensures.file c.in_ok-append.ensures.others only
    (after_delta c.args.delta.now keeps.0, subst (λ bodies. BodiesStand store.size bodies (after_delta c.args.delta.now keeps.0)) (sym c.in_ok-append.ensures.bodies) stand)

-- ---- which calls were done

pub returns-in_err-append-clause-told : goal.returns-in_err-append-clause-told
returns-in_err-append-clause-told g c kept own stand =
    let store = c.args.self.now in
    let area = area_of store in
    let count = length (records_of store) in
    let old = g.D.Disk.view.told c.args.disk.now in
    let new = g.D.Disk.view.told c.append.new.disk in
    let item = c.in-Some.item in
    let calls = saves_record area count kept own c.args.delta.now item (sym c.delta_record.ensures ∙ c.in-Some.is) in
    let given = c.in_err-append.field-0.0 in
    let result = c.from_residual.result in
    subst (λ list. TellsThen (MadeCalls of_disk list result) old new) (sym calls)
    (subst (λ body. TellsThen (MadeCalls of_disk (append_calls area count body) result) old new) c.record_bytes.ensures.spelled
    (tells_weaker (made_sooner gate_fault_of of_disk (append_calls area count c.record_bytes.result) [] (Err given) result c.from_residual.ensures.0
    (gates_handed result given c.from_residual.ensures.1)) old new c.in_err-append.ensures.told))

pub returns-clause-told : goal.returns-clause-told
returns-clause-told g c kept own stand =
    let store = c.args.self.now in
    let area = area_of store in
    let count = length (records_of store) in
    let old = g.D.Disk.view.told c.args.disk.now in
    let new = g.D.Disk.view.told c.append.new.disk in
    let item = c.in-Some.item in
    let calls = saves_record area count kept own c.args.delta.now item (sym c.delta_record.ensures ∙ c.in-Some.is) in
    subst (λ list. TellsThen (MadeCalls of_disk list (Ok tt)) old new) (sym calls)
    (subst (λ body. TellsThen (MadeCalls of_disk (append_calls area count body) (Ok tt)) old new) c.record_bytes.ensures.spelled
    (tells_weaker (λ one two made. made_all of_disk (append_calls area count c.record_bytes.result) tt one two (made_done gate_fault_of (append_calls area count c.record_bytes.result) tt one two made)) old new c.in_ok-append.ensures.told))

-- ---- the area that it goes on in

pub returns-clause-area : goal.returns-clause-area
returns-clause-area g c = c.append.ensures.file ∙ sym (stays_in_area (area_of c.args.self.now) c.args.delta.now c.in-Some.item (sym c.delta_record.ensures ∙ c.in-Some.is))

-- ---- what is spelled

-- ---- its format

pub returns-in_err-append-clause-format : goal.returns-in_err-append-clause-format
returns-in_err-append-clause-format g c was begins = was (subst (BeginsInFormat1 c.args.self.now.size) c.in_err-append.ensures.kept begins)

pub returns-clause-format : goal.returns-clause-format
returns-clause-format g c was begins =
    let store = c.args.self.now in
    change_in_format_2 store.size (bodies_of store.gates) c.record_bytes.result c.in-Some.item c.args.delta.now (sym c.delta_record.ensures ∙ c.in-Some.is) c.record_bytes.ensures.is_record was
    (subst (BeginsInFormat1 store.size) c.in_ok-append.ensures.bodies begins)
