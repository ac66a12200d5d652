use Rattle.std.proofs.Common.{◌≡◌, ◌≢◌, ◌∷◌, [], ◌++◌, length, Err, inl, inr, ⊎_elim, sym, ap, ◌∙◌, subst}
use Rattle.std.specs.Bool.{⊤}
use Rattle.disk_model.specs.declared.fault.FileNo.TheVariants.{Chooser}
use Rattle.disk_model.specs.Images.{file_of, IsDurable, NoNewImage, InFileOnly, AllHave}
use Rattle.disk_model.proofs.RunLemmas.{now_in_run}
use Rattle.gate_file.specs.Gates.{HasBodies, IsStaged}
use Rattle.gate_file.proofs.GateLemmas.{one_list}
use Rattle.store_format.specs.Area.{StandFor, IsFirstRecordAtFault}
use Rattle.replica_store.specs.Files.{selected}
use Rattle.replica_store.proofs.AttachLemmas.{looks_on, looked_elsewhere, closed_elsewhere, area_staged, close_recoverable}
use Rattle.replica_store.proofs.FaultLemmas.{damaged_below, not_memory}
use Rattle.replica_store.proofs.FileLemmas.{selects_area, same_chooser, recoverable_stands, fewer_recoverable, read_stands}
use Rattle.replica_store.proofs.ImageLemmas.{stays_durable}
use Rattle.replica_store.proofs.SaveLemmas.{run_stands, run_recoverable, two_runs}
use Rattle.disk_model.specs.Made.{SyncOf, AllDone, MadeCalls}
use Rattle.disk_model.specs.Told.{TellsThen}
use Rattle.disk_model.specs.View.{LeavesOnly}
use Rattle.disk_model.proofs.MadeLemmas.{all_then, made_all, made_done, made_later, made_sooner, tells_then, tells_weaker}
use Rattle.gate_file.specs.Faults.{gate_fault_of}
use Rattle.gate_file.specs.Made.{close_calls, read_calls}
use Rattle.gate_file.specs.ReadFile.{bodies_read}
use Rattle.replica_store.specs.Faults.{of_disk}
use Rattle.replica_store.specs.Made.{attach_calls, look_calls}
use Rattle.replica_store.proofs.MadeLemmas.{all_of, disk_handed, gates_handed, records_made}
use Rattle.replica_store.proofs.RowsLemmas.{rows_found, tried_fits}
use Rattle.replica_store.proofs.store.Store.attach_as_it_is.Goals as goal

-- ---- the chooser

pub returns-in_err-area-clause-images : goal.returns-in_err-area-clause-images
returns-in_err-area-clause-images g c before after honest recoverable =
    let old = c.args.disk.now in
    run_stands g.D.Disk.view c.args.size before after old c.select.new.disk (g.D.Disk.view.may_leave old) recoverable (c.select.ensures.images honest)

pub returns-in_err-area-clause-recoverable : goal.returns-in_err-area-clause-recoverable
returns-in_err-area-clause-recoverable g c before after honest recoverable =
    fewer_recoverable c.args.size before after (g.D.Disk.view.may_leave c.args.disk.now) (g.D.Disk.view.may_leave c.select.new.disk) (c.select.ensures.no_new_image honest) recoverable

-- ---- the area

pub returns-in_err-read-clause-images : goal.returns-in_err-read-clause-images
returns-in_err-read-clause-images g c before after honest recoverable =
    let old = c.args.disk.now in
    let chosen = c.select.new.disk in
    let looked = looks_on g.D.Disk.view old chosen c.read.new.disk (g.D.Disk.view.may_leave old) (g.D.Disk.view.may_leave chosen) (c.select.ensures.images honest) (c.select.ensures.no_new_image honest) (c.read.ensures.images (c.select.ensures.honest.1 honest)) in
    run_stands g.D.Disk.view c.args.size before after old c.read.new.disk (g.D.Disk.view.may_leave old) recoverable looked

pub returns-in_err-read-clause-recoverable : goal.returns-in_err-read-clause-recoverable
returns-in_err-read-clause-recoverable g c before after honest recoverable =
    let none : NoNewImage (g.D.Disk.view.may_leave c.args.disk.now) (g.D.Disk.view.may_leave c.read.new.disk) = λ image left. c.select.ensures.no_new_image honest image (c.read.ensures.no_new_image (c.select.ensures.honest.1 honest) image left) in
    fewer_recoverable c.args.size before after (g.D.Disk.view.may_leave c.args.disk.now) (g.D.Disk.view.may_leave c.read.new.disk) none recoverable

-- ---- its records

pub returns-in_err-kept-clause-images : goal.returns-in_err-kept-clause-images
returns-in_err-kept-clause-images g c before after honest recoverable =
    let old = c.args.disk.now in
    let chosen = c.select.new.disk in
    let looked = looks_on g.D.Disk.view old chosen c.read.new.disk (g.D.Disk.view.may_leave old) (g.D.Disk.view.may_leave chosen) (c.select.ensures.images honest) (c.select.ensures.no_new_image honest) (c.read.ensures.images (c.select.ensures.honest.1 honest)) in
    run_stands g.D.Disk.view c.args.size before after old c.read.new.disk (g.D.Disk.view.may_leave old) recoverable looked

pub returns-in_err-kept-clause-recoverable : goal.returns-in_err-kept-clause-recoverable
returns-in_err-kept-clause-recoverable g c before after honest recoverable =
    let none : NoNewImage (g.D.Disk.view.may_leave c.args.disk.now) (g.D.Disk.view.may_leave c.read.new.disk) = λ image left. c.select.ensures.no_new_image honest image (c.read.ensures.no_new_image (c.select.ensures.honest.1 honest) image left) in
    fewer_recoverable c.args.size before after (g.D.Disk.view.may_leave c.args.disk.now) (g.D.Disk.view.may_leave c.read.new.disk) none recoverable

pub returns-in_err-kept-clause-sound : goal.returns-in_err-kept-clause-sound
returns-in_err-kept-clause-sound g c before after gate honest recoverable damaged =
    let old = c.args.disk.now in
    let size = c.args.size in
    let seen = g.D.Disk.view.seen old in
    let has-0 = subst (λ image. HasBodies (file_of c.in_ok-area.area image) c.in_ok-read.read.bodies.items) c.select.ensures.seen c.in_ok-read.ensures.bodies in
    let has-1 = subst (λ area. HasBodies (file_of area seen) c.in_ok-read.read.bodies.items) c.in_ok-area.ensures.selected has-0 in
    let has = subst (λ bodies. HasBodies (file_of (selected seen) seen) bodies) (sym c.bodies.ensures) has-1 in
    let stand = read_stands size before after seen c.bodies.result.now has (recoverable_stands size before after (g.D.Disk.view.may_leave old) recoverable seen (g.met.D.Disk.seen_is_left old honest)) in
    let fault = c.in_err-kept.field-0.0 in
    let is = damaged_below fault gate c.from_residual-in_err-kept.result c.from_residual-in_err-kept.ensures.1 damaged in
    ⊎_elim
    (λ was. not_memory fault gate (c.in_err-kept.ensures.only before was.0 was.1) is)
    (λ now. not_memory fault gate (c.in_err-kept.ensures.only after now.0 now.1) is)
    stand

pub returns-in_err-kept-clause-damaged : goal.returns-in_err-kept-clause-damaged
returns-in_err-kept-clause-damaged g c gate bodies damaged has =
    let seen = g.D.Disk.view.seen c.args.disk.now in
    let has-0 = subst (λ image. HasBodies (file_of c.in_ok-area.area image) c.in_ok-read.read.bodies.items) c.select.ensures.seen c.in_ok-read.ensures.bodies in
    let has-1 = subst (λ area. HasBodies (file_of area seen) c.in_ok-read.read.bodies.items) c.in_ok-area.ensures.selected has-0 in
    let found = subst (λ found. HasBodies (file_of (selected seen) seen) found) (sym c.bodies.ensures) has-1 in
    let is = damaged_below c.in_err-kept.field-0.0 gate c.from_residual-in_err-kept.result c.from_residual-in_err-kept.ensures.1 damaged in
    let fault = c.in_err-kept.ensures.damaged gate (ap Err is) in
    subst (λ list. IsFirstRecordAtFault c.args.size list gate) (one_list (file_of (selected seen) seen) c.bodies.result.now bodies found has) fault

-- ---- its tail gate

pub returns-in_err-gates-clause-images : goal.returns-in_err-gates-clause-images
returns-in_err-gates-clause-images g c before after honest recoverable =
    let old = c.args.disk.now in
    let chosen = c.select.new.disk in
    let read = c.read.new.disk in
    let size = c.args.size in
    let area = c.in_ok-area.area in
    let still = c.select.ensures.honest.1 honest in
    let there = c.read.ensures.answer.honest_still.1 still in
    let none : NoNewImage (g.D.Disk.view.may_leave old) (g.D.Disk.view.may_leave read) = λ image left. c.select.ensures.no_new_image honest image (c.read.ensures.no_new_image still image left) in
    let looked = looks_on g.D.Disk.view old chosen read (g.D.Disk.view.may_leave old) (g.D.Disk.view.may_leave chosen) (c.select.ensures.images honest) (c.select.ensures.no_new_image honest) (c.read.ensures.images still) in
    let is : selected (g.D.Disk.view.seen read) ≡ area = ap selected (c.read.ensures.seen ∙ c.select.ensures.seen) ∙ sym c.in_ok-area.ensures.selected in
    let durable : IsDurable Chooser (g.D.Disk.view.seen read) (g.D.Disk.view.may_leave read) = λ image left. c.in_ok-area.ensures.durable still image (c.read.ensures.no_new_image still image left) ∙ sym (ap (file_of Chooser) c.read.ensures.seen) in
    let staged = area_staged size before after (g.D.Disk.view.seen read) (g.D.Disk.view.may_leave read) area is (g.met.D.Disk.seen_is_left read there) (fewer_recoverable size before after (g.D.Disk.view.may_leave old) (g.D.Disk.view.may_leave read) none recoverable) in
    let Q = InFileOnly area (g.D.Disk.view.may_leave read) (IsStaged staged.bodies staged.pending) in
    let close = subst (λ f. AllHave f (IsStaged staged.bodies staged.pending) (g.D.Disk.view.may_leave read) → LeavesOnly g.D.Disk.view read c.close.new.disk (InFileOnly f (g.D.Disk.view.may_leave read) (IsStaged staged.bodies staged.pending))) c.in_ok-read.ensures.file (c.close.ensures.images staged.bodies staged.pending there) in
    two_runs g.D.Disk.view size before after old read c.close.new.disk
    (run_stands g.D.Disk.view size before after old read (g.D.Disk.view.may_leave old) recoverable looked)
    (run_stands g.D.Disk.view size before after read c.close.new.disk Q (close_recoverable size before after (g.D.Disk.view.seen read) (g.D.Disk.view.may_leave read) area is durable staged) (close staged.staged))

pub returns-in_err-gates-clause-recoverable : goal.returns-in_err-gates-clause-recoverable
returns-in_err-gates-clause-recoverable g c before after honest recoverable =
    let old = c.args.disk.now in
    let read = c.read.new.disk in
    let size = c.args.size in
    let area = c.in_ok-area.area in
    let still = c.select.ensures.honest.1 honest in
    let there = c.read.ensures.answer.honest_still.1 still in
    let none : NoNewImage (g.D.Disk.view.may_leave old) (g.D.Disk.view.may_leave read) = λ image left. c.select.ensures.no_new_image honest image (c.read.ensures.no_new_image still image left) in
    let is : selected (g.D.Disk.view.seen read) ≡ area = ap selected (c.read.ensures.seen ∙ c.select.ensures.seen) ∙ sym c.in_ok-area.ensures.selected in
    let durable : IsDurable Chooser (g.D.Disk.view.seen read) (g.D.Disk.view.may_leave read) = λ image left. c.in_ok-area.ensures.durable still image (c.read.ensures.no_new_image still image left) ∙ sym (ap (file_of Chooser) c.read.ensures.seen) in
    let staged = area_staged size before after (g.D.Disk.view.seen read) (g.D.Disk.view.may_leave read) area is (g.met.D.Disk.seen_is_left read there) (fewer_recoverable size before after (g.D.Disk.view.may_leave old) (g.D.Disk.view.may_leave read) none recoverable) in
    let Q = InFileOnly area (g.D.Disk.view.may_leave read) (IsStaged staged.bodies staged.pending) in
    let close = subst (λ f. AllHave f (IsStaged staged.bodies staged.pending) (g.D.Disk.view.may_leave read) → LeavesOnly g.D.Disk.view read c.close.new.disk (InFileOnly f (g.D.Disk.view.may_leave read) (IsStaged staged.bodies staged.pending))) c.in_ok-read.ensures.file (c.close.ensures.images staged.bodies staged.pending there) in
    run_recoverable g.D.Disk.view size before after read c.close.new.disk Q (λ start image le left. g.met.D.Disk.counts_now c.close.new.disk start image (c.close.ensures.answer.honest_still.1 there) le left)
    (close_recoverable size before after (g.D.Disk.view.seen read) (g.D.Disk.view.may_leave read) area is durable staged) (close staged.staged)

-- ---- attached

pub returns-clause-images : goal.returns-clause-images
returns-clause-images g c before after honest recoverable =
    let old = c.args.disk.now in
    let chosen = c.select.new.disk in
    let read = c.read.new.disk in
    let size = c.args.size in
    let area = c.in_ok-area.area in
    let still = c.select.ensures.honest.1 honest in
    let there = c.read.ensures.answer.honest_still.1 still in
    let none : NoNewImage (g.D.Disk.view.may_leave old) (g.D.Disk.view.may_leave read) = λ image left. c.select.ensures.no_new_image honest image (c.read.ensures.no_new_image still image left) in
    let looked = looks_on g.D.Disk.view old chosen read (g.D.Disk.view.may_leave old) (g.D.Disk.view.may_leave chosen) (c.select.ensures.images honest) (c.select.ensures.no_new_image honest) (c.read.ensures.images still) in
    let is : selected (g.D.Disk.view.seen read) ≡ area = ap selected (c.read.ensures.seen ∙ c.select.ensures.seen) ∙ sym c.in_ok-area.ensures.selected in
    let durable : IsDurable Chooser (g.D.Disk.view.seen read) (g.D.Disk.view.may_leave read) = λ image left. c.in_ok-area.ensures.durable still image (c.read.ensures.no_new_image still image left) ∙ sym (ap (file_of Chooser) c.read.ensures.seen) in
    let staged = area_staged size before after (g.D.Disk.view.seen read) (g.D.Disk.view.may_leave read) area is (g.met.D.Disk.seen_is_left read there) (fewer_recoverable size before after (g.D.Disk.view.may_leave old) (g.D.Disk.view.may_leave read) none recoverable) in
    let Q = InFileOnly area (g.D.Disk.view.may_leave read) (IsStaged staged.bodies staged.pending) in
    let close = subst (λ f. AllHave f (IsStaged staged.bodies staged.pending) (g.D.Disk.view.may_leave read) → LeavesOnly g.D.Disk.view read c.close.new.disk (InFileOnly f (g.D.Disk.view.may_leave read) (IsStaged staged.bodies staged.pending))) c.in_ok-read.ensures.file (c.close.ensures.images staged.bodies staged.pending there) in
    two_runs g.D.Disk.view size before after old read c.close.new.disk
    (run_stands g.D.Disk.view size before after old read (g.D.Disk.view.may_leave old) recoverable looked)
    (run_stands g.D.Disk.view size before after read c.close.new.disk Q (close_recoverable size before after (g.D.Disk.view.seen read) (g.D.Disk.view.may_leave read) area is durable staged) (close staged.staged))

pub returns-clause-recoverable : goal.returns-clause-recoverable
returns-clause-recoverable g c before after honest recoverable =
    let old = c.args.disk.now in
    let read = c.read.new.disk in
    let size = c.args.size in
    let area = c.in_ok-area.area in
    let still = c.select.ensures.honest.1 honest in
    let there = c.read.ensures.answer.honest_still.1 still in
    let none : NoNewImage (g.D.Disk.view.may_leave old) (g.D.Disk.view.may_leave read) = λ image left. c.select.ensures.no_new_image honest image (c.read.ensures.no_new_image still image left) in
    let is : selected (g.D.Disk.view.seen read) ≡ area = ap selected (c.read.ensures.seen ∙ c.select.ensures.seen) ∙ sym c.in_ok-area.ensures.selected in
    let durable : IsDurable Chooser (g.D.Disk.view.seen read) (g.D.Disk.view.may_leave read) = λ image left. c.in_ok-area.ensures.durable still image (c.read.ensures.no_new_image still image left) ∙ sym (ap (file_of Chooser) c.read.ensures.seen) in
    let staged = area_staged size before after (g.D.Disk.view.seen read) (g.D.Disk.view.may_leave read) area is (g.met.D.Disk.seen_is_left read there) (fewer_recoverable size before after (g.D.Disk.view.may_leave old) (g.D.Disk.view.may_leave read) none recoverable) in
    let Q = InFileOnly area (g.D.Disk.view.may_leave read) (IsStaged staged.bodies staged.pending) in
    let close = subst (λ f. AllHave f (IsStaged staged.bodies staged.pending) (g.D.Disk.view.may_leave read) → LeavesOnly g.D.Disk.view read c.close.new.disk (InFileOnly f (g.D.Disk.view.may_leave read) (IsStaged staged.bodies staged.pending))) c.in_ok-read.ensures.file (c.close.ensures.images staged.bodies staged.pending there) in
    run_recoverable g.D.Disk.view size before after read c.close.new.disk Q (λ start image le left. g.met.D.Disk.counts_now c.close.new.disk start image (c.close.ensures.answer.honest_still.1 there) le left)
    (close_recoverable size before after (g.D.Disk.view.seen read) (g.D.Disk.view.may_leave read) area is durable staged) (close staged.staged)

pub returns-clause-either : goal.returns-clause-either
returns-clause-either g c before after honest recoverable =
    let old = c.args.disk.now in
    let size = c.args.size in
    let seen = g.D.Disk.view.seen old in
    let has-0 = subst (λ image. HasBodies (file_of c.in_ok-area.area image) c.in_ok-read.read.bodies.items) c.select.ensures.seen c.in_ok-read.ensures.bodies in
    let has-1 = subst (λ area. HasBodies (file_of area seen) c.in_ok-read.read.bodies.items) c.in_ok-area.ensures.selected has-0 in
    let has = subst (λ bodies. HasBodies (file_of (selected seen) seen) bodies) (sym c.bodies.ensures) has-1 in
    let stand = read_stands size before after seen c.bodies.result.now has (recoverable_stands size before after (g.D.Disk.view.may_leave old) recoverable seen (g.met.D.Disk.seen_is_left old honest)) in
    ⊎_elim
    (λ was. inl ((c.in_ok-kept.ensures.only before was.0 was.1).0))
    (λ now. inr ((c.in_ok-kept.ensures.only after now.0 now.1).0))
    stand

pub returns-clause-rests : goal.returns-clause-rests
returns-clause-rests g c =
    let read = c.read.new.disk in
    let close = c.close.new.disk in
    let file = c.in_ok-read.read.file in
    let is : selected (g.D.Disk.view.seen read) ≡ file = ap selected (c.read.ensures.seen ∙ c.select.ensures.seen) ∙ sym c.in_ok-area.ensures.selected ∙ sym c.in_ok-read.ensures.file in
    let differs : Chooser ≢ file = λ chooser. selects_area (g.D.Disk.view.seen read) (is ∙ sym chooser) in
    record {
      gates = c.in_ok-gates.ensures.rests;
      selects = same_chooser (g.D.Disk.view.seen close) (g.D.Disk.view.seen read) (c.in_ok-gates.ensures.others Chooser differs) ∙ is ∙ sym c.in_ok-gates.ensures.file;
      chooser = λ honest.
          let there = c.close.ensures.answer.honest_still.0 honest in
          let still = c.read.ensures.answer.honest_still.0 there in
          let durable : IsDurable Chooser (g.D.Disk.view.seen read) (g.D.Disk.view.may_leave read) = λ image left. c.in_ok-area.ensures.durable still image (c.read.ensures.no_new_image still image left) ∙ sym (ap (file_of Chooser) c.read.ensures.seen) in
          stays_durable Chooser file differs (g.D.Disk.view.seen read) (g.D.Disk.view.seen close) (g.D.Disk.view.may_leave read) (g.D.Disk.view.may_leave close) (λ bytes. ⊤) durable c.in_ok-gates.ensures.others
          (now_in_run g.D.Disk.view read close (InFileOnly file (g.D.Disk.view.may_leave read) (λ bytes. ⊤)) (λ start image le left. g.met.D.Disk.counts_now close start image honest le left) (c.close.ensures.elsewhere there));
      keeps = (c.in_ok-kept.kept, (c.in_ok-kept.field-0-1, subst (λ bodies. StandFor c.args.size bodies c.in_ok-kept.kept c.in_ok-kept.field-0-1) (c.bodies.ensures ∙ sym c.in_ok-gates.ensures.bodies) c.in_ok-kept.ensures.found));
    }

-- ---- the other files

pub returns-in_err-area-clause-elsewhere : goal.returns-in_err-area-clause-elsewhere
returns-in_err-area-clause-elsewhere g c honest =
    let old = c.args.disk.now in
    looked_elsewhere g.D.Disk.view (selected (g.D.Disk.view.seen old)) old c.select.new.disk (g.D.Disk.view.may_leave old) (c.select.ensures.images honest)

pub returns-in_err-read-clause-elsewhere : goal.returns-in_err-read-clause-elsewhere
returns-in_err-read-clause-elsewhere g c honest =
    let old = c.args.disk.now in
    let chosen = c.select.new.disk in
    let read = c.read.new.disk in
    let still = c.select.ensures.honest.1 honest in
    looked_elsewhere g.D.Disk.view (selected (g.D.Disk.view.seen old)) old read (g.D.Disk.view.may_leave old)
    (looks_on g.D.Disk.view old chosen read (g.D.Disk.view.may_leave old) (g.D.Disk.view.may_leave chosen) (c.select.ensures.images honest) (c.select.ensures.no_new_image honest) (c.read.ensures.images still))

pub returns-in_err-kept-clause-elsewhere : goal.returns-in_err-kept-clause-elsewhere
returns-in_err-kept-clause-elsewhere g c honest =
    let old = c.args.disk.now in
    let chosen = c.select.new.disk in
    let read = c.read.new.disk in
    let still = c.select.ensures.honest.1 honest in
    looked_elsewhere g.D.Disk.view (selected (g.D.Disk.view.seen old)) old read (g.D.Disk.view.may_leave old)
    (looks_on g.D.Disk.view old chosen read (g.D.Disk.view.may_leave old) (g.D.Disk.view.may_leave chosen) (c.select.ensures.images honest) (c.select.ensures.no_new_image honest) (c.read.ensures.images still))

pub returns-in_err-gates-clause-elsewhere : goal.returns-in_err-gates-clause-elsewhere
returns-in_err-gates-clause-elsewhere g c honest =
    let old = c.args.disk.now in
    let chosen = c.select.new.disk in
    let read = c.read.new.disk in
    let still = c.select.ensures.honest.1 honest in
    let none : NoNewImage (g.D.Disk.view.may_leave old) (g.D.Disk.view.may_leave read) = λ image left. c.select.ensures.no_new_image honest image (c.read.ensures.no_new_image still image left) in
    closed_elsewhere g.D.Disk.view (selected (g.D.Disk.view.seen old)) old read c.close.new.disk (g.D.Disk.view.may_leave old) (g.D.Disk.view.may_leave read)
    (looks_on g.D.Disk.view old chosen read (g.D.Disk.view.may_leave old) (g.D.Disk.view.may_leave chosen) (c.select.ensures.images honest) (c.select.ensures.no_new_image honest) (c.read.ensures.images still)) none
    (subst (λ f. LeavesOnly g.D.Disk.view read c.close.new.disk (InFileOnly f (g.D.Disk.view.may_leave read) (λ bytes. ⊤))) (c.in_ok-read.ensures.file ∙ c.in_ok-area.ensures.selected) (c.close.ensures.elsewhere (c.read.ensures.answer.honest_still.1 still)))

pub returns-clause-elsewhere : goal.returns-clause-elsewhere
returns-clause-elsewhere g c honest =
    let old = c.args.disk.now in
    let chosen = c.select.new.disk in
    let read = c.read.new.disk in
    let still = c.select.ensures.honest.1 honest in
    let none : NoNewImage (g.D.Disk.view.may_leave old) (g.D.Disk.view.may_leave read) = λ image left. c.select.ensures.no_new_image honest image (c.read.ensures.no_new_image still image left) in
    closed_elsewhere g.D.Disk.view (selected (g.D.Disk.view.seen old)) old read c.close.new.disk (g.D.Disk.view.may_leave old) (g.D.Disk.view.may_leave read)
    (looks_on g.D.Disk.view old chosen read (g.D.Disk.view.may_leave old) (g.D.Disk.view.may_leave chosen) (c.select.ensures.images honest) (c.select.ensures.no_new_image honest) (c.read.ensures.images still)) none
    (subst (λ f. LeavesOnly g.D.Disk.view read c.close.new.disk (InFileOnly f (g.D.Disk.view.may_leave read) (λ bytes. ⊤))) (c.in_ok-read.ensures.file ∙ c.in_ok-area.ensures.selected) (c.close.ensures.elsewhere (c.read.ensures.answer.honest_still.1 still)))

-- ---- which calls were done

pub returns-in_err-area-clause-told : goal.returns-in_err-area-clause-told
returns-in_err-area-clause-told g c records has =
    let seen = g.D.Disk.view.seen c.args.disk.now in
    let given = c.in_err-area.field-0.0 in
    let result = c.from_residual.result in
    tells_weaker (made_sooner (λ f. f) of_disk (SyncOf Chooser ∷ []) (read_calls (selected seen) ++ close_calls (selected seen) (file_of (selected seen) seen) (length records)) (Err given) result
    c.from_residual.ensures.0 (disk_handed result given c.from_residual.ensures.1)) (g.D.Disk.view.told c.args.disk.now) (g.D.Disk.view.told c.select.new.disk) c.in_err-area.ensures.told

pub returns-in_err-read-clause-told : goal.returns-in_err-read-clause-told
returns-in_err-read-clause-told g c records has =
    let seen = g.D.Disk.view.seen c.args.disk.now in
    let given = c.in_err-read.field-0.0 in
    let result = c.from_residual-in_err-read.result in
    let fails = c.from_residual-in_err-read.ensures.0 in
    let old = g.D.Disk.view.told c.args.disk.now in
    let mid = g.D.Disk.view.told c.select.new.disk in
    let new = g.D.Disk.view.told c.read.new.disk in
    let area = c.in_ok-area.area in
    let rest = close_calls (selected seen) (file_of (selected seen) seen) (length records) in
    let chooser = tells_weaker (made_done (λ f. f) (SyncOf Chooser ∷ []) area) old mid c.in_ok-area.ensures.told in
    subst (λ no. TellsThen (MadeCalls of_disk (SyncOf Chooser ∷ (read_calls no ++ rest)) result) old new) c.in_ok-area.ensures.selected
    (tells_then (λ one two three first made. made_later of_disk of_disk (SyncOf Chooser ∷ []) (read_calls area ++ rest) result result fails (λ fault is. is) one two three first
    (made_sooner gate_fault_of of_disk (read_calls area) rest (Err given) result fails (gates_handed result given c.from_residual-in_err-read.ensures.1) two three made)) old mid new chooser c.in_err-read.ensures.told)

pub returns-in_err-kept-clause-told : goal.returns-in_err-kept-clause-told
returns-in_err-kept-clause-told g c records has =
    let seen = g.D.Disk.view.seen c.args.disk.now in
    let old = g.D.Disk.view.told c.args.disk.now in
    let chosen = g.D.Disk.view.told c.select.new.disk in
    let looked = g.D.Disk.view.told c.read.new.disk in
    let chooser = tells_weaker (made_done (λ f. f) (SyncOf Chooser ∷ []) c.in_ok-area.area) old chosen c.in_ok-area.ensures.told in
    let area = tells_weaker (made_done gate_fault_of (read_calls c.in_ok-area.area) c.in_ok-read.read) chosen looked c.in_ok-read.ensures.told in
    let both : TellsThen (AllDone (look_calls seen)) old looked =
    subst (λ no. TellsThen (AllDone (SyncOf Chooser ∷ read_calls no)) old looked) c.in_ok-area.ensures.selected (tells_then (all_then (SyncOf Chooser ∷ []) (read_calls c.in_ok-area.area)) old chosen looked chooser area) in
    tells_weaker (records_made (look_calls seen) (close_calls (selected seen) (file_of (selected seen) seen) (length records)) c.in_err-kept.field-0.0 c.from_residual-in_err-kept.result c.from_residual-in_err-kept.ensures.1) old looked both

pub returns-in_err-kept-clause-told_damaged : goal.returns-in_err-kept-clause-told_damaged
returns-in_err-kept-clause-told_damaged g c gate is =
    let seen = g.D.Disk.view.seen c.args.disk.now in
    let old = g.D.Disk.view.told c.args.disk.now in
    let chosen = g.D.Disk.view.told c.select.new.disk in
    let looked = g.D.Disk.view.told c.read.new.disk in
    let chooser = tells_weaker (made_done (λ f. f) (SyncOf Chooser ∷ []) c.in_ok-area.area) old chosen c.in_ok-area.ensures.told in
    let area = tells_weaker (made_done gate_fault_of (read_calls c.in_ok-area.area) c.in_ok-read.read) chosen looked c.in_ok-read.ensures.told in
    let both : TellsThen (AllDone (look_calls seen)) old looked =
    subst (λ no. TellsThen (AllDone (SyncOf Chooser ∷ read_calls no)) old looked) c.in_ok-area.ensures.selected (tells_then (all_then (SyncOf Chooser ∷ []) (read_calls c.in_ok-area.area)) old chosen looked chooser area) in
    both

pub returns-in_err-gates-clause-told : goal.returns-in_err-gates-clause-told
returns-in_err-gates-clause-told g c records has =
    let seen = g.D.Disk.view.seen c.args.disk.now in
    let old = g.D.Disk.view.told c.args.disk.now in
    let chosen = g.D.Disk.view.told c.select.new.disk in
    let looked = g.D.Disk.view.told c.read.new.disk in
    let chooser = tells_weaker (made_done (λ f. f) (SyncOf Chooser ∷ []) c.in_ok-area.area) old chosen c.in_ok-area.ensures.told in
    let area = tells_weaker (made_done gate_fault_of (read_calls c.in_ok-area.area) c.in_ok-read.read) chosen looked c.in_ok-read.ensures.told in
    let both : TellsThen (AllDone (look_calls seen)) old looked =
    subst (λ no. TellsThen (AllDone (SyncOf Chooser ∷ read_calls no)) old looked) c.in_ok-area.ensures.selected (tells_then (all_then (SyncOf Chooser ∷ []) (read_calls c.in_ok-area.area)) old chosen looked chooser area) in
    let new = g.D.Disk.view.told c.close.new.disk in
    let has-0 = subst (λ image. HasBodies (file_of c.in_ok-area.area image) c.in_ok-read.read.bodies.items) c.select.ensures.seen c.in_ok-read.ensures.bodies in
    let has-1 = subst (λ no. HasBodies (file_of no seen) c.in_ok-read.read.bodies.items) c.in_ok-area.ensures.selected has-0 in
    let found : bodies_read c.in_ok-read.read ≡ records = one_list (file_of (selected seen) seen) (bodies_read c.in_ok-read.read) records has-1 has in
    let closing : TellsThen (MadeCalls gate_fault_of (close_calls (selected seen) (file_of (selected seen) seen) (length records)) c.close.result) looked new =
    subst (λ list. TellsThen (MadeCalls gate_fault_of (close_calls (selected seen) (file_of (selected seen) seen) (length list)) c.close.result) looked new) found
    (subst (λ image. TellsThen (MadeCalls gate_fault_of (close_calls (selected seen) (file_of (selected seen) image) (length (bodies_read c.in_ok-read.read))) c.close.result) looked new) (c.read.ensures.seen ∙ c.select.ensures.seen)
    (subst (λ no. TellsThen (MadeCalls gate_fault_of (close_calls no (file_of no (g.D.Disk.view.seen c.read.new.disk)) (length (bodies_read c.in_ok-read.read))) c.close.result) looked new) (c.in_ok-read.ensures.file ∙ c.in_ok-area.ensures.selected) c.close.ensures.told)) in
    let rest = close_calls (selected seen) (file_of (selected seen) seen) (length records) in
    let given = c.in_err-gates.field-0.0 in
    let result = c.from_residual-in_err-gates.result in
    tells_then (λ one two three first made. made_later gate_fault_of of_disk (look_calls seen) rest c.close.result result c.from_residual-in_err-gates.ensures.0
    (λ fault is. c.in_err-gates.was ∙ gates_handed result given c.from_residual-in_err-gates.ensures.1 fault is) one two three first made) old looked new both closing

pub returns-clause-told : goal.returns-clause-told
returns-clause-told g c records has =
    let seen = g.D.Disk.view.seen c.args.disk.now in
    let old = g.D.Disk.view.told c.args.disk.now in
    let chosen = g.D.Disk.view.told c.select.new.disk in
    let looked = g.D.Disk.view.told c.read.new.disk in
    let chooser = tells_weaker (made_done (λ f. f) (SyncOf Chooser ∷ []) c.in_ok-area.area) old chosen c.in_ok-area.ensures.told in
    let area = tells_weaker (made_done gate_fault_of (read_calls c.in_ok-area.area) c.in_ok-read.read) chosen looked c.in_ok-read.ensures.told in
    let both : TellsThen (AllDone (look_calls seen)) old looked =
    subst (λ no. TellsThen (AllDone (SyncOf Chooser ∷ read_calls no)) old looked) c.in_ok-area.ensures.selected (tells_then (all_then (SyncOf Chooser ∷ []) (read_calls c.in_ok-area.area)) old chosen looked chooser area) in
    let new = g.D.Disk.view.told c.close.new.disk in
    let has-0 = subst (λ image. HasBodies (file_of c.in_ok-area.area image) c.in_ok-read.read.bodies.items) c.select.ensures.seen c.in_ok-read.ensures.bodies in
    let has-1 = subst (λ no. HasBodies (file_of no seen) c.in_ok-read.read.bodies.items) c.in_ok-area.ensures.selected has-0 in
    let found : bodies_read c.in_ok-read.read ≡ records = one_list (file_of (selected seen) seen) (bodies_read c.in_ok-read.read) records has-1 has in
    let closing : TellsThen (MadeCalls gate_fault_of (close_calls (selected seen) (file_of (selected seen) seen) (length records)) c.close.result) looked new =
    subst (λ list. TellsThen (MadeCalls gate_fault_of (close_calls (selected seen) (file_of (selected seen) seen) (length list)) c.close.result) looked new) found
    (subst (λ image. TellsThen (MadeCalls gate_fault_of (close_calls (selected seen) (file_of (selected seen) image) (length (bodies_read c.in_ok-read.read))) c.close.result) looked new) (c.read.ensures.seen ∙ c.select.ensures.seen)
    (subst (λ no. TellsThen (MadeCalls gate_fault_of (close_calls no (file_of no (g.D.Disk.view.seen c.read.new.disk)) (length (bodies_read c.in_ok-read.read))) c.close.result) looked new) (c.in_ok-read.ensures.file ∙ c.in_ok-area.ensures.selected) c.close.ensures.told)) in
    let rest = close_calls (selected seen) (file_of (selected seen) seen) (length records) in
    let closed = tells_weaker (all_of gate_fault_of rest c.close.result c.in_ok-gates.gates c.in_ok-gates.was) looked new closing in
    tells_weaker (λ one two all. made_all of_disk (attach_calls seen (length records)) _ one two all) old new (tells_then (all_then (look_calls seen) rest) old looked new both closed)

pub returns-clause-area : goal.returns-clause-area
returns-clause-area g c = c.in_ok-gates.ensures.file ∙ c.in_ok-read.ensures.file ∙ c.in_ok-area.ensures.selected

-- ---- damage leaves everything as it was

pub returns-in_err-kept-clause-damaged_image : goal.returns-in_err-kept-clause-damaged_image
returns-in_err-kept-clause-damaged_image g c gate is honest = λ image left. c.select.ensures.no_new_image honest image (c.read.ensures.no_new_image (c.select.ensures.honest.1 honest) image left)

pub returns-in_err-kept-clause-damaged_images : goal.returns-in_err-kept-clause-damaged_images
returns-in_err-kept-clause-damaged_images g c gate is honest =
    let old = c.args.disk.now in
    let chosen = c.select.new.disk in
    looks_on g.D.Disk.view old chosen c.read.new.disk (g.D.Disk.view.may_leave old) (g.D.Disk.view.may_leave chosen) (c.select.ensures.images honest) (c.select.ensures.no_new_image honest) (c.read.ensures.images (c.select.ensures.honest.1 honest))

-- ---- a replica can start with what was found

pub returns-clause-rows : goal.returns-clause-rows
returns-clause-rows g c = rows_found c.args.size c.bodies.result.now c.in_ok-kept.kept c.in_ok-kept.field-0-1 c.in_ok-kept.ensures.found

pub returns-clause-tried : goal.returns-clause-tried
returns-clause-tried g c = tried_fits c.args.size c.bodies.result.now c.in_ok-kept.kept c.in_ok-kept.field-0-1 c.in_ok-kept.ensures.found

-- ---- no new image at want of memory

pub returns-in_err-kept-clause-memory_image : goal.returns-in_err-kept-clause-memory_image
returns-in_err-kept-clause-memory_image g c memory honest = λ image left. c.select.ensures.no_new_image honest image (c.read.ensures.no_new_image (c.select.ensures.honest.1 honest) image left)

-- ---- the records that were read

pub returns-clause-records : goal.returns-clause-records
returns-clause-records g c =
    let seen = g.D.Disk.view.seen c.args.disk.now in
    let has-0 = subst (λ image. HasBodies (file_of c.in_ok-area.area image) c.in_ok-read.read.bodies.items) c.select.ensures.seen c.in_ok-read.ensures.bodies in
    let has-1 = subst (λ area. HasBodies (file_of area seen) c.in_ok-read.read.bodies.items) c.in_ok-area.ensures.selected has-0 in
    subst (λ list. HasBodies (file_of (selected seen) seen) list) (sym c.in_ok-gates.ensures.bodies) has-1
