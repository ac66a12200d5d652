use Rattle.std.proofs.Common.{◌≢◌, ◌∷◌, [], ◌++◌, length, map, Ok, Err, rules, sym, ap, ◌∙◌, subst}
use Rattle.std.specs.Bool.{⊤}
use Rattle.disk_model.specs.declared.fault.FileNo.TheVariants.{Chooser}
use Rattle.disk_model.specs.Images.{Image, file_of, Torn, HoldsPiece, InFile, InFileOnly}
use Rattle.disk_model.proofs.RunLemmas.{now_in_run}
use Rattle.gate_file.specs.File.{file_no, bodies_of}
use Rattle.paxos_base.specs.declared.durable.Delta.TheVariants.{Base}
use Rattle.paxos_base.specs.Durable.{after_delta}
use Rattle.replica_store.specs.Files.{bit_of, other_area, BodiesStand}
use Rattle.replica_store.specs.Store.{area_of}
use Rattle.replica_store.proofs.FaultLemmas.{handed_on}
use Rattle.replica_store.proofs.FileLemmas.{other_is_area}
use Rattle.replica_store.proofs.ImageLemmas.{stays_durable}
use Rattle.replica_store.proofs.SaveLemmas.{run_stands, run_recoverable, two_runs, other_recoverable, chooser_recoverable, rests_in_other, rests_in_chooser, rests_by_chooser}
use Rattle.disk_model.specs.Told.{TellsThen}
use Rattle.disk_model.proofs.MadeLemmas.{all_then, handed, made_all, made_done, made_later, made_sooner, tells_then, tells_weaker, write_breaks, write_done, made_some}
use Rattle.disk_model.specs.Told.{AfterWriteSynced}
use Rattle.gate_file.specs.Made.{rewrite_calls}
use Rattle.store_format.specs.Area.{base_records}
use Rattle.store_format.specs.Records.{record_bytes}
use Rattle.replica_store.specs.Faults.{of_disk}
use Rattle.replica_store.specs.Made.{choose_calls}
use Rattle.replica_store.specs.Store.{records_of}
use Rattle.replica_store.proofs.MadeLemmas.{disk_apart}
use Rattle.replica_store.proofs.store.Store.save_base.Goals as goal

-- ---- the other area

pub returns-in_err-gates-clause-images : goal.returns-in_err-gates-clause-images
returns-in_err-gates-clause-images g c kept keeps honest =
    let old = c.args.disk.now in
    let store = c.args.self.now in
    let after = after_delta (Base c.args.slot c.args.rows.now) kept in
    let recoverable = other_recoverable g.D.Disk.view old store c.requires.rests kept after (λ bytes. ⊤) keeps honest in
    run_stands g.D.Disk.view store.size kept after old c.write_area.new.disk (InFileOnly (other_area (area_of store)) (g.D.Disk.view.may_leave old) (λ bytes. ⊤)) recoverable (c.write_area.ensures.images honest)

pub returns-in_err-gates-clause-recoverable : goal.returns-in_err-gates-clause-recoverable
returns-in_err-gates-clause-recoverable g c kept keeps honest =
    let old = c.args.disk.now in
    let mid = c.write_area.new.disk in
    let store = c.args.self.now in
    let after = after_delta (Base c.args.slot c.args.rows.now) kept in
    let recoverable = other_recoverable g.D.Disk.view old store c.requires.rests kept after (λ bytes. ⊤) keeps honest in
    run_recoverable g.D.Disk.view store.size kept after old mid (InFileOnly (other_area (area_of store)) (g.D.Disk.view.may_leave old) (λ bytes. ⊤))
    (λ start image le left. g.met.D.Disk.counts_now mid start image (c.write_area.ensures.answer.honest_still.1 honest) le left) recoverable (c.write_area.ensures.images honest)

pub returns-in_err-gates-clause-memory : goal.returns-in_err-gates-clause-memory
returns-in_err-gates-clause-memory g c memory =
    let old = c.args.disk.now in
    let mid = c.write_area.new.disk in
    let store = c.args.self.now in
    rests_in_other g.D.Disk.view old store c.requires.rests mid (λ bytes. ⊤) c.write_area.ensures.answer.honest_still.0 (c.write_area.ensures.memory_others (search rules))
    (λ honest. now_in_run g.D.Disk.view old mid (InFileOnly (other_area (area_of store)) (g.D.Disk.view.may_leave old) (λ bytes. ⊤))
    (λ start image le left. g.met.D.Disk.counts_now mid start image (c.write_area.ensures.answer.honest_still.1 honest) le left) (c.write_area.ensures.images honest))

-- ---- the chooser

pub write_synced-requires-clause-durable : goal.write_synced-requires-clause-durable
write_synced-requires-clause-durable g c honest =
    let old = c.args.disk.now in
    let mid = c.write_area.new.disk in
    let other = other_area (area_of c.args.self.now) in
    let before = c.write_area.ensures.answer.honest_still.0 honest in
    stays_durable Chooser other (λ is. other_is_area (area_of c.args.self.now) (sym is)) (g.D.Disk.view.seen old) (g.D.Disk.view.seen mid) (g.D.Disk.view.may_leave old) (g.D.Disk.view.may_leave mid) (λ bytes. ⊤) (c.requires.rests.chooser before) c.in_ok-gates.ensures.others
    (now_in_run g.D.Disk.view old mid (InFileOnly other (g.D.Disk.view.may_leave old) (λ bytes. ⊤)) (λ start image le left. g.met.D.Disk.counts_now mid start image honest le left) (c.write_area.ensures.images before))

pub returns-in_err-write_synced-clause-images : goal.returns-in_err-write_synced-clause-images
returns-in_err-write_synced-clause-images g c kept keeps honest =
    let old = c.args.disk.now in
    let mid = c.write_area.new.disk in
    let new = c.write_synced.new.disk in
    let store = c.args.self.now in
    let other = other_area (area_of store) in
    let after = after_delta (Base c.args.slot c.args.rows.now) kept in
    let there = c.write_area.ensures.answer.honest_still.1 honest in
    let first = other_recoverable g.D.Disk.view old store c.requires.rests kept after (λ bytes. ⊤) keeps honest in
    let rests = rests_in_other g.D.Disk.view old store c.requires.rests mid (λ bytes. ⊤) c.write_area.ensures.answer.honest_still.0 c.in_ok-gates.ensures.others
    (λ is. now_in_run g.D.Disk.view old mid (InFileOnly other (g.D.Disk.view.may_leave old) (λ bytes. ⊤)) (λ start image le left. g.met.D.Disk.counts_now mid start image (c.write_area.ensures.answer.honest_still.1 is) le left) (c.write_area.ensures.images is)) in
    let stand : BodiesStand store.size (bodies_of c.in_ok-gates.gates) after = c.in_ok-gates.ensures.stand kept keeps in
    let T = Torn 0 1 (file_of Chooser (g.D.Disk.view.seen mid)) in
    let second = chooser_recoverable g.D.Disk.view mid store rests kept after T c.in_ok-gates.gates c.in_ok-gates.ensures.file c.in_ok-gates.ensures.rests keeps there stand in
    two_runs g.D.Disk.view store.size kept after old mid new
    (run_stands g.D.Disk.view store.size kept after old mid (InFileOnly other (g.D.Disk.view.may_leave old) (λ bytes. ⊤)) first (c.write_area.ensures.images honest))
    (run_stands g.D.Disk.view store.size kept after mid new (InFileOnly Chooser (g.D.Disk.view.may_leave mid) T) second (c.write_synced.ensures.images there))

pub returns-in_err-write_synced-clause-recoverable : goal.returns-in_err-write_synced-clause-recoverable
returns-in_err-write_synced-clause-recoverable g c kept keeps honest =
    let old = c.args.disk.now in
    let mid = c.write_area.new.disk in
    let new = c.write_synced.new.disk in
    let store = c.args.self.now in
    let other = other_area (area_of store) in
    let after = after_delta (Base c.args.slot c.args.rows.now) kept in
    let there = c.write_area.ensures.answer.honest_still.1 honest in
    let first = other_recoverable g.D.Disk.view old store c.requires.rests kept after (λ bytes. ⊤) keeps honest in
    let rests = rests_in_other g.D.Disk.view old store c.requires.rests mid (λ bytes. ⊤) c.write_area.ensures.answer.honest_still.0 c.in_ok-gates.ensures.others
    (λ is. now_in_run g.D.Disk.view old mid (InFileOnly other (g.D.Disk.view.may_leave old) (λ bytes. ⊤)) (λ start image le left. g.met.D.Disk.counts_now mid start image (c.write_area.ensures.answer.honest_still.1 is) le left) (c.write_area.ensures.images is)) in
    let stand : BodiesStand store.size (bodies_of c.in_ok-gates.gates) after = c.in_ok-gates.ensures.stand kept keeps in
    let T = Torn 0 1 (file_of Chooser (g.D.Disk.view.seen mid)) in
    let second = chooser_recoverable g.D.Disk.view mid store rests kept after T c.in_ok-gates.gates c.in_ok-gates.ensures.file c.in_ok-gates.ensures.rests keeps there stand in
    run_recoverable g.D.Disk.view store.size kept after mid new (InFileOnly Chooser (g.D.Disk.view.may_leave mid) T)
    (λ start image le left. g.met.D.Disk.counts_now new start image (c.write_synced.ensures.honest.1 there) le left) second (c.write_synced.ensures.images there)

pub returns-clause-images : goal.returns-clause-images
returns-clause-images g c kept keeps honest =
    let old = c.args.disk.now in
    let mid = c.write_area.new.disk in
    let new = c.write_synced.new.disk in
    let store = c.args.self.now in
    let other = other_area (area_of store) in
    let after = after_delta (Base c.args.slot c.args.rows.now) kept in
    let there = c.write_area.ensures.answer.honest_still.1 honest in
    let first = other_recoverable g.D.Disk.view old store c.requires.rests kept after (λ bytes. ⊤) keeps honest in
    let rests = rests_in_other g.D.Disk.view old store c.requires.rests mid (λ bytes. ⊤) c.write_area.ensures.answer.honest_still.0 c.in_ok-gates.ensures.others
    (λ is. now_in_run g.D.Disk.view old mid (InFileOnly other (g.D.Disk.view.may_leave old) (λ bytes. ⊤)) (λ start image le left. g.met.D.Disk.counts_now mid start image (c.write_area.ensures.answer.honest_still.1 is) le left) (c.write_area.ensures.images is)) in
    let stand : BodiesStand store.size (bodies_of c.in_ok-gates.gates) after = c.in_ok-gates.ensures.stand kept keeps in
    let T = Torn 0 1 (file_of Chooser (g.D.Disk.view.seen mid)) in
    let second = chooser_recoverable g.D.Disk.view mid store rests kept after T c.in_ok-gates.gates c.in_ok-gates.ensures.file c.in_ok-gates.ensures.rests keeps there stand in
    two_runs g.D.Disk.view store.size kept after old mid new
    (run_stands g.D.Disk.view store.size kept after old mid (InFileOnly other (g.D.Disk.view.may_leave old) (λ bytes. ⊤)) first (c.write_area.ensures.images honest))
    (run_stands g.D.Disk.view store.size kept after mid new (InFileOnly Chooser (g.D.Disk.view.may_leave mid) T) second (c.write_synced.ensures.images there))

pub returns-clause-recoverable : goal.returns-clause-recoverable
returns-clause-recoverable g c kept keeps honest =
    let old = c.args.disk.now in
    let mid = c.write_area.new.disk in
    let new = c.write_synced.new.disk in
    let store = c.args.self.now in
    let other = other_area (area_of store) in
    let after = after_delta (Base c.args.slot c.args.rows.now) kept in
    let there = c.write_area.ensures.answer.honest_still.1 honest in
    let first = other_recoverable g.D.Disk.view old store c.requires.rests kept after (λ bytes. ⊤) keeps honest in
    let rests = rests_in_other g.D.Disk.view old store c.requires.rests mid (λ bytes. ⊤) c.write_area.ensures.answer.honest_still.0 c.in_ok-gates.ensures.others
    (λ is. now_in_run g.D.Disk.view old mid (InFileOnly other (g.D.Disk.view.may_leave old) (λ bytes. ⊤)) (λ start image le left. g.met.D.Disk.counts_now mid start image (c.write_area.ensures.answer.honest_still.1 is) le left) (c.write_area.ensures.images is)) in
    let stand : BodiesStand store.size (bodies_of c.in_ok-gates.gates) after = c.in_ok-gates.ensures.stand kept keeps in
    let T = Torn 0 1 (file_of Chooser (g.D.Disk.view.seen mid)) in
    let second = chooser_recoverable g.D.Disk.view mid store rests kept after T c.in_ok-gates.gates c.in_ok-gates.ensures.file c.in_ok-gates.ensures.rests keeps there stand in
    run_recoverable g.D.Disk.view store.size kept after mid new (InFileOnly Chooser (g.D.Disk.view.may_leave mid) T)
    (λ start image le left. g.met.D.Disk.counts_now new start image (c.write_synced.ensures.honest.1 there) le left) second (c.write_synced.ensures.images there)

pub returns-in_err-write_synced-clause-memory : goal.returns-in_err-write_synced-clause-memory
returns-in_err-write_synced-clause-memory g c memory =
    let old = c.args.disk.now in
    let mid = c.write_area.new.disk in
    let new = c.write_synced.new.disk in
    let store = c.args.self.now in
    let other = other_area (area_of store) in
    let rests = rests_in_other g.D.Disk.view old store c.requires.rests mid (λ bytes. ⊤) c.write_area.ensures.answer.honest_still.0 c.in_ok-gates.ensures.others
    (λ is. now_in_run g.D.Disk.view old mid (InFileOnly other (g.D.Disk.view.may_leave old) (λ bytes. ⊤)) (λ start image le left. g.met.D.Disk.counts_now mid start image (c.write_area.ensures.answer.honest_still.1 is) le left) (c.write_area.ensures.images is)) in
    let T = Torn 0 1 (file_of Chooser (g.D.Disk.view.seen mid)) in
    let only : g.D.Disk.view.honest mid → (image : Image) → g.D.Disk.view.may_leave new image → InFileOnly Chooser (g.D.Disk.view.may_leave mid) T image = λ is. now_in_run g.D.Disk.view mid new (InFileOnly Chooser (g.D.Disk.view.may_leave mid) T) (λ start image le left. g.met.D.Disk.counts_now new start image (c.write_synced.ensures.honest.1 is) le left) (c.write_synced.ensures.images is) in
    let none = handed_on c.in_err-write_synced.field-0.0 c.write_synced.result c.from_residual-in_err-write_synced.result c.in_err-write_synced.was c.from_residual-in_err-write_synced.ensures.1 memory in
    rests_in_chooser g.D.Disk.view mid store rests new T c.write_synced.ensures.honest.0 (c.write_synced.ensures.unchanged none) (c.write_synced.ensures.still_durable none) only

pub returns-clause-keeps : goal.returns-clause-keeps
returns-clause-keeps g c kept keeps = c.in_ok-gates.ensures.stand kept keeps

pub returns-clause-rests : goal.returns-clause-rests
returns-clause-rests g c =
    let old = c.args.disk.now in
    let mid = c.write_area.new.disk in
    let new = c.write_synced.new.disk in
    let store = c.args.self.now in
    let other = other_area (area_of store) in
    let rests = rests_in_other g.D.Disk.view old store c.requires.rests mid (λ bytes. ⊤) c.write_area.ensures.answer.honest_still.0 c.in_ok-gates.ensures.others
    (λ is. now_in_run g.D.Disk.view old mid (InFileOnly other (g.D.Disk.view.may_leave old) (λ bytes. ⊤)) (λ start image le left. g.met.D.Disk.counts_now mid start image (c.write_area.ensures.answer.honest_still.1 is) le left) (c.write_area.ensures.images is)) in
    let T = Torn 0 1 (file_of Chooser (g.D.Disk.view.seen mid)) in
    let only : g.D.Disk.view.honest mid → (image : Image) → g.D.Disk.view.may_leave new image → InFileOnly Chooser (g.D.Disk.view.may_leave mid) T image = λ is. now_in_run g.D.Disk.view mid new (InFileOnly Chooser (g.D.Disk.view.may_leave mid) T) (λ start image le left. g.met.D.Disk.counts_now new start image (c.write_synced.ensures.honest.1 is) le left) (c.write_synced.ensures.images is) in
    let gates = c.in_ok-gates.gates in
    let keeps = c.requires.rests.keeps in
    let differs : file_no gates ≢ Chooser = λ is. other_is_area (area_of store) (sym c.in_ok-gates.ensures.file ∙ is) in
    let byte = subst (λ bit. InFile Chooser (HoldsPiece 0 (bit ∷ [])) (g.D.Disk.view.seen mid) (g.D.Disk.view.seen new)) (c.bit_of.ensures ∙ ap bit_of c.file.ensures) c.in_ok-write_synced.ensures.written in
    rests_by_chooser g.D.Disk.view mid store rests new (record { alloc = store.alloc; size = store.size; gates = gates }) T c.write_synced.ensures.honest.0 differs c.in_ok-gates.ensures.rests byte c.in_ok-write_synced.ensures.durable only
    (after_delta (Base c.args.slot c.args.rows.now) keeps.0, c.in_ok-gates.ensures.stand keeps.0 keeps.1)

-- ---- a record

-- ---- which calls were done

pub returns-in_err-gates-clause-told : goal.returns-in_err-gates-clause-told
returns-in_err-gates-clause-told g c kept own stand =
    let store = c.args.self.now in
    let area = area_of store in
    let count = length (records_of store) in
    let old = g.D.Disk.view.told c.args.disk.now in
    let other = other_area area in
    let new = g.D.Disk.view.told c.write_area.new.disk in
    let given = c.in_err-gates.field-0.0 in
    let result = c.from_residual.result in
    let records = rewrite_calls other (map record_bytes (base_records kept own c.args.slot c.args.rows.now)) in
    (tells_weaker (made_sooner of_disk of_disk records (choose_calls other) (Err given) result c.from_residual.ensures.0
    (λ fault is. handed result given c.from_residual.ensures.1 (of_disk fault) is)) old new (c.in_err-gates.ensures.told kept own stand))

pub returns-in_err-write_synced-clause-told : goal.returns-in_err-write_synced-clause-told
returns-in_err-write_synced-clause-told g c kept own stand =
    let store = c.args.self.now in
    let area = area_of store in
    let count = length (records_of store) in
    let old = g.D.Disk.view.told c.args.disk.now in
    let other = other_area area in
    let records = rewrite_calls other (map record_bytes (base_records kept own c.args.slot c.args.rows.now)) in
    let mid = g.D.Disk.view.told c.write_area.new.disk in
    let new = g.D.Disk.view.told c.write_synced.new.disk in
    let written = tells_weaker (made_done of_disk records c.in_ok-gates.gates) old mid (c.in_ok-gates.ensures.told kept own stand) in
    let bit = c.bit_of.ensures ∙ ap bit_of (c.file.ensures ∙ c.in_ok-gates.ensures.file) in
    let given = c.in_err-write_synced.field-0.0 in
    let result = c.from_residual-in_err-write_synced.result in
    let chosen : TellsThen (AfterWriteSynced Chooser 0 (bit_of other ∷ []) (Err given)) mid new =
    subst (λ b. TellsThen (AfterWriteSynced Chooser 0 (b ∷ []) (Err given)) mid new) bit c.in_err-write_synced.ensures.told in
    (tells_then (λ one two three first broken. made_later of_disk of_disk records (choose_calls other) result result c.from_residual-in_err-write_synced.ensures.0 (λ fault is. is) one two three first
    (made_some of_disk (choose_calls other) given result disk_apart c.from_residual-in_err-write_synced.ensures.1 two three (write_breaks given Chooser 0 (bit_of other ∷ []) [] two three broken))) old mid new written chosen)

pub returns-clause-told : goal.returns-clause-told
returns-clause-told g c kept own stand =
    let store = c.args.self.now in
    let area = area_of store in
    let count = length (records_of store) in
    let old = g.D.Disk.view.told c.args.disk.now in
    let other = other_area area in
    let records = rewrite_calls other (map record_bytes (base_records kept own c.args.slot c.args.rows.now)) in
    let mid = g.D.Disk.view.told c.write_area.new.disk in
    let new = g.D.Disk.view.told c.write_synced.new.disk in
    let written = tells_weaker (made_done of_disk records c.in_ok-gates.gates) old mid (c.in_ok-gates.ensures.told kept own stand) in
    let bit = c.bit_of.ensures ∙ ap bit_of (c.file.ensures ∙ c.in_ok-gates.ensures.file) in
    let chosen : TellsThen (AfterWriteSynced Chooser 0 (bit_of other ∷ []) (Ok tt)) mid new =
    subst (λ b. TellsThen (AfterWriteSynced Chooser 0 (b ∷ []) (Ok tt)) mid new) bit c.in_ok-write_synced.ensures.told in
    (tells_then (λ one two three first last. made_all of_disk (records ++ choose_calls other) tt one three (all_then records (choose_calls other) one two three first (write_done Chooser 0 (bit_of other ∷ []) two three last))) old mid new written chosen)

-- ---- the area that it goes on in

pub returns-clause-area : goal.returns-clause-area
returns-clause-area g c = c.in_ok-gates.ensures.file

-- ---- what is spelled

pub returns-in_err-gates-clause-spelled : goal.returns-in_err-gates-clause-spelled
returns-in_err-gates-clause-spelled g c kept own stand stopped = c.write_area.ensures.stopped_spelled kept own stand (search rules)

pub returns-in_err-write_synced-clause-spelled : goal.returns-in_err-write_synced-clause-spelled
returns-in_err-write_synced-clause-spelled g c kept own stand stopped = c.in_ok-gates.ensures.spelled kept own stand

-- ---- its format

pub returns-clause-format : goal.returns-clause-format
returns-clause-format g c = c.in_ok-gates.ensures.format

pub returns-clause-still : goal.returns-clause-still
returns-clause-still g c was = c.in_ok-gates.ensures.format
