use Rattle.std.proofs.Common.{◌≡◌, ◌++◌, [], length, List, ℕ, Err, Ok, inl, inr, refl, ◌∙◌, subst, ap, sym}
use Rattle.std.proofs.lemmas.List.{append-nil}
use Rattle.disk_model.specs.Images.{file_of}
use Rattle.disk_model.specs.Made.{AllDone, DiskCall, MadeCalls}
use Rattle.disk_model.specs.Told.{TellsThen}
use Rattle.disk_model.proofs.MadeLemmas.{all_then, handed, made_all, made_done, made_later, made_sooner, tells_then, tells_weaker}
use Rattle.gate_file.specs.File.{bodies_of}
use Rattle.gate_file.proofs.GateLemmas.{one_list}
use Rattle.paxos_base.specs.declared.durable.Delta.TheVariants.{Base}
use Rattle.paxos_base.specs.declared.durable.Durable.{Durable}
use Rattle.paxos_base.specs.declared.rows.TableSize.{TableSize}
use Rattle.store_format.specs.Area.{StandFor}
use Rattle.replica_store.specs.Faults.{of_disk}
use Rattle.replica_store.specs.Files.{BodiesStand, SelectsFormat1, other_area, selected}
use Rattle.replica_store.specs.Kept.{IsClean}
use Rattle.replica_store.proofs.CleanLemmas.{attached_clean, moved_clean}
use Rattle.disk_model.specs.declared.fault.FileNo.TheVariants.{Chooser}
use Rattle.replica_store.specs.Made.{AreAttachCalls, attach_calls, save_calls}
use Rattle.replica_store.specs.declared.fault.StoreFault.TheVariants.{Damaged}
use Rattle.replica_store.specs.declared.store.Store.{Store}
use Rattle.replica_store.proofs.FaultLemmas.{same_fault}
use Rattle.replica_store.proofs.MigrateLemmas.{kept_again, migrated_recoverable, migrated_run, not_selected, rests_has, rests_in_format_2, tested_no, tested_yes}
use Rattle.replica_store.proofs.store.Store.attach.Goals as goal

-- ---- it is not attached as it is

pub returns-in_err-store-clause-sound : goal.returns-in_err-store-clause-sound
returns-in_err-store-clause-sound g c before after gate honest recoverable is =
    c.attach_as_it_is.ensures.sound before after gate honest recoverable (same_fault c.in_err-store.field-0.0 c.attach_as_it_is.result c.from_residual.result (Damaged gate) c.in_err-store.was c.from_residual.ensures.1 is)

pub returns-in_err-store-clause-damaged : goal.returns-in_err-store-clause-damaged
returns-in_err-store-clause-damaged g c gate bodies is has =
    c.attach_as_it_is.ensures.damaged gate bodies (same_fault c.in_err-store.field-0.0 c.attach_as_it_is.result c.from_residual.result (Damaged gate) c.in_err-store.was c.from_residual.ensures.1 is) has

pub returns-in_err-store-clause-told : goal.returns-in_err-store-clause-told
returns-in_err-store-clause-told g c records has =
    let calls = attach_calls (g.D.Disk.view.seen c.args.disk.now) (length records) in
    let given = c.in_err-store.field-0.0 in
    let result = c.from_residual.result in (
      calls ++ [],
      inl (append-nil calls),
      tells_weaker (made_sooner of_disk of_disk calls [] (Err given) result c.from_residual.ensures.0 (λ fault is. handed result given c.from_residual.ensures.1 (of_disk fault) is))
          (g.D.Disk.view.told c.args.disk.now) (g.D.Disk.view.told c.attach_as_it_is.new.disk) (c.in_err-store.ensures.told records has),
    )

-- ---- it is in format 2

pub returns-then-not-begins_in_format_1-clause-migrated : goal.returns-then-not-begins_in_format_1-clause-migrated
returns-then-not-begins_in_format_1-clause-migrated g c =
    let store = c.in_ok-store.store in
    let mid = c.attach_as_it_is.new.disk in
    not_selected c.args.size (g.D.Disk.view.seen mid) (bodies_of store.gates) (rests_has g.D.Disk.view mid store c.in_ok-store.ensures.rests)
    (tested_no c.args.size (bodies_of store.gates) c.bodies.result.now c.begins_in_format_1.result c.bodies.ensures c.begins_in_format_1.ensures.1 c.if-not-begins_in_format_1.true)

pub returns-then-not-begins_in_format_1-clause-told : goal.returns-then-not-begins_in_format_1-clause-told
returns-then-not-begins_in_format_1-clause-told g c records has =
    (attach_calls (g.D.Disk.view.seen c.args.disk.now) (length records), inl refl, c.in_ok-store.ensures.told records has)

-- ---- a base is saved

pub returns-in_err-save_base-clause-elsewhere : goal.returns-in_err-save_base-clause-elsewhere
returns-in_err-save_base-clause-elsewhere g c none honest =
    let bodies = bodies_of c.in_ok-store.store.gates in
    absurd (none (bodies, c.in_ok-store.ensures.records, tested_yes c.args.size bodies c.bodies.result.now c.begins_in_format_1.result c.bodies.ensures c.begins_in_format_1.ensures.0 c.if-not-begins_in_format_1.false))

pub returns-in_err-save_base-clause-images : goal.returns-in_err-save_base-clause-images
returns-in_err-save_base-clause-images g c before after honest recoverable =
    let store = c.in_ok-store.store in
    let kept = c.in_ok-store.kept in
    let keeps = c.in_ok-store.ensures.keeps in
    let there = c.attach_as_it_is.ensures.answer.honest_still.1 honest in
    migrated_run g.D.Disk.view c.args.size before after kept store c.in_ok-store.ensures.size keeps (c.in_ok-store.ensures.either before after honest recoverable)
    c.args.disk.now c.attach_as_it_is.new.disk c.save_base.new.disk (c.attach_as_it_is.ensures.images before after honest recoverable) (c.save_base.ensures.images kept keeps there)

pub returns-in_err-save_base-clause-recoverable : goal.returns-in_err-save_base-clause-recoverable
returns-in_err-save_base-clause-recoverable g c before after honest recoverable =
    let store = c.in_ok-store.store in
    let kept = c.in_ok-store.kept in
    let keeps = c.in_ok-store.ensures.keeps in
    let there = c.attach_as_it_is.ensures.answer.honest_still.1 honest in
    migrated_recoverable g.D.Disk.view c.args.size before after kept store c.in_ok-store.ensures.size keeps (c.in_ok-store.ensures.either before after honest recoverable)
    (g.D.Disk.view.may_leave c.save_base.new.disk) (c.save_base.ensures.recoverable kept keeps there)

pub returns-in_err-save_base-clause-told : goal.returns-in_err-save_base-clause-told
returns-in_err-save_base-clause-told g c records has =
    let store = c.in_ok-store.store in
    let kept = c.in_ok-store.kept in
    let keeps = c.in_ok-store.ensures.keeps in
    let size = c.args.size in
    let seen = g.D.Disk.view.seen c.args.disk.now in
    let old = g.D.Disk.view.told c.args.disk.now in
    let mid = g.D.Disk.view.told c.attach_as_it_is.new.disk in
    let new = g.D.Disk.view.told c.save_base.new.disk in
    let list = bodies_of store.gates in
    let own = keeps.0 in
    let front = attach_calls seen (length list) in
    let back = save_calls (selected seen) (length list) kept own (Base kept.base kept.rows) in
    let begins = tested_yes size list c.bodies.result.now c.begins_in_format_1.result c.bodies.ensures c.begins_in_format_1.ensures.0 c.if-not-begins_in_format_1.false in
    let stand : StandFor size list kept own = subst (λ (s : TableSize). StandFor s list kept own) c.in_ok-store.ensures.size keeps.1 in
    let was : Store × Durable = (store, kept) in
    let first : TellsThen (AllDone front) old mid = tells_weaker (made_done of_disk front was) old mid (c.in_ok-store.ensures.told list c.in_ok-store.ensures.records) in
    let given = c.in_err-save_base.field-0.0 in
    let result = c.from_residual-in_err-save_base.result in
    let second : TellsThen (MadeCalls {T = Unit} of_disk back (Err given)) mid new =
    subst (λ area. TellsThen (MadeCalls {T = Unit} of_disk (save_calls area (length list) kept own (Base kept.base kept.rows)) (Err given)) mid new) c.in_ok-store.ensures.area (c.in_err-save_base.ensures.told kept own keeps.1) in
    let both : TellsThen (MadeCalls of_disk (front ++ back) result) old new =
    tells_then (λ one two three done made. made_later {T = Unit} of_disk of_disk front back (Err given) result c.from_residual-in_err-save_base.ensures.0 (λ fault is. handed {T = Unit} result given c.from_residual-in_err-save_base.ensures.1 (of_disk fault) is) one two three done made) old mid new first second in
    subst (λ (read : List (List ℕ)). (calls : List DiskCall) × AreAttachCalls size seen read calls × TellsThen (MadeCalls of_disk calls result) old new) (one_list (file_of (selected seen) seen) list records c.in_ok-store.ensures.records has)
    (front ++ back, inr (begins, (kept, own, stand, refl)), both)

pub returns-clause-elsewhere : goal.returns-clause-elsewhere
returns-clause-elsewhere g c none honest =
    let bodies = bodies_of c.in_ok-store.store.gates in
    absurd (none (bodies, c.in_ok-store.ensures.records, tested_yes c.args.size bodies c.bodies.result.now c.begins_in_format_1.result c.bodies.ensures c.begins_in_format_1.ensures.0 c.if-not-begins_in_format_1.false))

pub returns-clause-images : goal.returns-clause-images
returns-clause-images g c before after honest recoverable =
    let store = c.in_ok-store.store in
    let kept = c.in_ok-store.kept in
    let keeps = c.in_ok-store.ensures.keeps in
    let there = c.attach_as_it_is.ensures.answer.honest_still.1 honest in
    migrated_run g.D.Disk.view c.args.size before after kept store c.in_ok-store.ensures.size keeps (c.in_ok-store.ensures.either before after honest recoverable)
    c.args.disk.now c.attach_as_it_is.new.disk c.save_base.new.disk (c.attach_as_it_is.ensures.images before after honest recoverable) (c.save_base.ensures.images kept keeps there)

pub returns-clause-recoverable : goal.returns-clause-recoverable
returns-clause-recoverable g c before after honest recoverable =
    let store = c.in_ok-store.store in
    let kept = c.in_ok-store.kept in
    let keeps = c.in_ok-store.ensures.keeps in
    let there = c.attach_as_it_is.ensures.answer.honest_still.1 honest in
    migrated_recoverable g.D.Disk.view c.args.size before after kept store c.in_ok-store.ensures.size keeps (c.in_ok-store.ensures.either before after honest recoverable)
    (g.D.Disk.view.may_leave c.save_base.new.disk) (c.save_base.ensures.recoverable kept keeps there)

pub returns-clause-told : goal.returns-clause-told
returns-clause-told g c records has =
    let store = c.in_ok-store.store in
    let kept = c.in_ok-store.kept in
    let keeps = c.in_ok-store.ensures.keeps in
    let size = c.args.size in
    let seen = g.D.Disk.view.seen c.args.disk.now in
    let old = g.D.Disk.view.told c.args.disk.now in
    let mid = g.D.Disk.view.told c.attach_as_it_is.new.disk in
    let new = g.D.Disk.view.told c.save_base.new.disk in
    let list = bodies_of store.gates in
    let own = keeps.0 in
    let front = attach_calls seen (length list) in
    let back = save_calls (selected seen) (length list) kept own (Base kept.base kept.rows) in
    let begins = tested_yes size list c.bodies.result.now c.begins_in_format_1.result c.bodies.ensures c.begins_in_format_1.ensures.0 c.if-not-begins_in_format_1.false in
    let stand : StandFor size list kept own = subst (λ (s : TableSize). StandFor s list kept own) c.in_ok-store.ensures.size keeps.1 in
    let was : Store × Durable = (store, kept) in
    let first : TellsThen (AllDone front) old mid = tells_weaker (made_done of_disk front was) old mid (c.in_ok-store.ensures.told list c.in_ok-store.ensures.records) in
    let second : TellsThen (MadeCalls of_disk back (Ok tt)) mid new =
    subst (λ area. TellsThen (MadeCalls of_disk (save_calls area (length list) kept own (Base kept.base kept.rows)) (Ok tt)) mid new) c.in_ok-store.ensures.area (c.in_ok-save_base.ensures.told kept own keeps.1) in
    let found : Store × Durable = (c.save_base.new.self, kept) in
    let both : TellsThen (MadeCalls of_disk (front ++ back) (Ok found)) old new =
    tells_then (λ one two three done made. made_all of_disk (front ++ back) found one three (all_then front back one two three done (made_done of_disk back tt two three made))) old mid new first second in
    subst (λ (read : List (List ℕ)). (calls : List DiskCall) × AreAttachCalls size seen read calls × TellsThen (MadeCalls of_disk calls (Ok found)) old new) (one_list (file_of (selected seen) seen) list records c.in_ok-store.ensures.records has)
    (front ++ back, inr (begins, (kept, own, stand, refl)), both)

pub returns-clause-keeps : goal.returns-clause-keeps
returns-clause-keeps g c =
    let store = c.in_ok-store.store in
    let kept = c.in_ok-store.kept in
    let keeps = c.in_ok-store.ensures.keeps in
    let now = c.save_base.new.self in
    subst (BodiesStand now.size (bodies_of now.gates)) (kept_again store.size (bodies_of store.gates) kept keeps) (c.in_ok-save_base.ensures.keeps kept keeps)

pub returns-clause-migrated : goal.returns-clause-migrated
returns-clause-migrated g c =
    let now = c.save_base.new.self in
    let new = c.save_base.new.disk in
    let is : now.size ≡ c.args.size = c.save_base.ensures.size ∙ c.in_ok-store.ensures.size in
    subst (λ (s : TableSize). SelectsFormat1 s (g.D.Disk.view.seen new) → ⊥) is (rests_in_format_2 g.D.Disk.view new now c.in_ok-save_base.ensures.rests c.in_ok-save_base.ensures.format)

-- ---- the area that it goes on in, and what is clean

pub returns-then-not-begins_in_format_1-clause-moved : goal.returns-then-not-begins_in_format_1-clause-moved
returns-then-not-begins_in_format_1-clause-moved g c selects =
    let list = bodies_of c.in_ok-store.store.gates in
    absurd (not_selected c.args.size (g.D.Disk.view.seen c.args.disk.now) list c.in_ok-store.ensures.records
    (tested_no c.args.size list c.bodies.result.now c.begins_in_format_1.result c.bodies.ensures c.begins_in_format_1.ensures.1 c.if-not-begins_in_format_1.true) selects)

pub returns-clause-moved : goal.returns-clause-moved
returns-clause-moved g c selects = c.in_ok-save_base.ensures.area ∙ ap other_area c.in_ok-store.ensures.area

pub returns-then-not-begins_in_format_1-clause-clean : goal.returns-then-not-begins_in_format_1-clause-clean
returns-then-not-begins_in_format_1-clause-clean g c =
    let store = c.in_ok-store.store in
    let seen = g.D.Disk.view.seen c.args.disk.now in
    let old = g.D.Disk.view.told c.args.disk.now in
    let new = g.D.Disk.view.told c.attach_as_it_is.new.disk in
    let list = bodies_of store.gates in
    let was : Store × Durable = (store, c.in_ok-store.kept) in
    let clean : TellsThen (λ before after. IsClean Chooser after × IsClean (selected seen) after) old new =
    tells_weaker (λ one two made. attached_clean seen (length list) one two (made_done of_disk (attach_calls seen (length list)) was one two made)) old new (c.in_ok-store.ensures.told list c.in_ok-store.ensures.records) in
    subst (λ area. TellsThen (λ before after. IsClean Chooser after × IsClean area after) old new) (sym c.in_ok-store.ensures.area) clean

pub returns-clause-clean : goal.returns-clause-clean
returns-clause-clean g c =
    let store = c.in_ok-store.store in
    let kept = c.in_ok-store.kept in
    let keeps = c.in_ok-store.ensures.keeps in
    let seen = g.D.Disk.view.seen c.args.disk.now in
    let old = g.D.Disk.view.told c.args.disk.now in
    let mid = g.D.Disk.view.told c.attach_as_it_is.new.disk in
    let new = g.D.Disk.view.told c.save_base.new.disk in
    let list = bodies_of store.gates in
    let own = keeps.0 in
    let front = attach_calls seen (length list) in
    let back = save_calls (selected seen) (length list) kept own (Base kept.base kept.rows) in
    let was : Store × Durable = (store, kept) in
    let first : TellsThen (AllDone front) old mid = tells_weaker (made_done of_disk front was) old mid (c.in_ok-store.ensures.told list c.in_ok-store.ensures.records) in
    let second : TellsThen (MadeCalls of_disk back (Ok tt)) mid new =
    subst (λ area. TellsThen (MadeCalls of_disk (save_calls area (length list) kept own (Base kept.base kept.rows)) (Ok tt)) mid new) c.in_ok-store.ensures.area (c.in_ok-save_base.ensures.told kept own keeps.1) in
    let clean : TellsThen (λ before after. IsClean Chooser after × IsClean (other_area (selected seen)) after) old new =
    tells_then (λ one two three done made. moved_clean seen (length list) kept own (Base kept.base kept.rows) one two three done (made_done of_disk back tt two three made)) old mid new first second in
    subst (λ area. TellsThen (λ before after. IsClean Chooser after × IsClean area after) old new) (sym (c.in_ok-save_base.ensures.area ∙ ap other_area c.in_ok-store.ensures.area)) clean
