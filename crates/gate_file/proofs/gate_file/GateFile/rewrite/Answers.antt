use Rattle.std.proofs.Common.{◌≡◌, ◌∷◌, [], sym, ap, ◌∙◌, subst}
use Rattle.disk_model.specs.Images.{file_of, Cut, Torn}
use Rattle.gate_file.specs.Gates.{HasRestingGate, AreWhole, gated}
use Rattle.gate_file.proofs.GateLemmas.{gated_rest}
use Rattle.disk_model.proofs.RunLemmas.{in_file_still}
use Rattle.gate_file.proofs.RewriteLemmas.{Any, at_first, none_yet, next, next_leaves, written_alone}
use Rattle.disk_model.specs.Made.{WriteAt, CutTo, SyncOf, AllDone, BreaksOff}
use Rattle.disk_model.specs.Told.{TellsThen}
use Rattle.disk_model.proofs.MadeLemmas.{tells_then, tells_weaker, all_then, breaks_here, breaks_later, one_done}
use Rattle.gate_file.specs.Made.{rewrite_calls}
use Rattle.gate_file.proofs.MadeLemmas.{told_some}
use Rattle.gate_file.proofs.gate_file.GateFile.rewrite.Goals as goal

pub returns-in_err-cut-clause-images : goal.returns-in_err-cut-clause-images
returns-in_err-cut-clause-images g c honest =
    let old = c.args.disk.now in
    let file = c.args.file in
    let zero = none_yet g.D.Disk.view file old (λ image left. g.met.D.Disk.only_now old image honest left) in
    let cut_all = next g.D.Disk.view file old old c.cut.new.self (Cut 0) (at_first g.D.Disk.view file old) (c.cut.ensures.images honest) in
    let cut_run = next_leaves g.D.Disk.view file old old c.cut.new.self zero (c.cut.ensures.time honest) cut_all in
    cut_run

pub returns-in_err-write_at-clause-images : goal.returns-in_err-write_at-clause-images
returns-in_err-write_at-clause-images g c honest =
    let old = c.args.disk.now in
    let file = c.args.file in
    let zero = none_yet g.D.Disk.view file old (λ image left. g.met.D.Disk.only_now old image honest left) in
    let cut_all = next g.D.Disk.view file old old c.cut.new.self (Cut 0) (at_first g.D.Disk.view file old) (c.cut.ensures.images honest) in
    let cut_run = next_leaves g.D.Disk.view file old old c.cut.new.self zero (c.cut.ensures.time honest) cut_all in
    let still = c.cut.ensures.honest.1 honest in
    let write_all = next g.D.Disk.view file old c.cut.new.self c.write_at.new.self (Torn 0 _) cut_all (c.write_at.ensures.images still) in
    let write_run = next_leaves g.D.Disk.view file old c.cut.new.self c.write_at.new.self cut_run (c.write_at.ensures.time still) write_all in
    write_run

pub returns-in_err-sync-clause-images : goal.returns-in_err-sync-clause-images
returns-in_err-sync-clause-images g c honest =
    let old = c.args.disk.now in
    let file = c.args.file in
    let zero = none_yet g.D.Disk.view file old (λ image left. g.met.D.Disk.only_now old image honest left) in
    let cut_all = next g.D.Disk.view file old old c.cut.new.self (Cut 0) (at_first g.D.Disk.view file old) (c.cut.ensures.images honest) in
    let cut_run = next_leaves g.D.Disk.view file old old c.cut.new.self zero (c.cut.ensures.time honest) cut_all in
    let still = c.cut.ensures.honest.1 honest in
    let write_all = next g.D.Disk.view file old c.cut.new.self c.write_at.new.self (Torn 0 _) cut_all (c.write_at.ensures.images still) in
    let write_run = next_leaves g.D.Disk.view file old c.cut.new.self c.write_at.new.self cut_run (c.write_at.ensures.time still) write_all in
    let still-2 = c.write_at.ensures.honest.1 still in
    next_leaves g.D.Disk.view file old c.write_at.new.self c.sync.new.self write_run (c.sync.ensures.time still-2) (in_file_still file (g.D.Disk.view.may_leave old) (g.D.Disk.view.may_leave c.write_at.new.self) (g.D.Disk.view.may_leave c.sync.new.self) Any write_all (c.sync.ensures.images still-2))

pub returns-clause-images : goal.returns-clause-images
returns-clause-images g c honest =
    let old = c.args.disk.now in
    let file = c.args.file in
    let zero = none_yet g.D.Disk.view file old (λ image left. g.met.D.Disk.only_now old image honest left) in
    let cut_all = next g.D.Disk.view file old old c.cut.new.self (Cut 0) (at_first g.D.Disk.view file old) (c.cut.ensures.images honest) in
    let cut_run = next_leaves g.D.Disk.view file old old c.cut.new.self zero (c.cut.ensures.time honest) cut_all in
    let still = c.cut.ensures.honest.1 honest in
    let write_all = next g.D.Disk.view file old c.cut.new.self c.write_at.new.self (Torn 0 _) cut_all (c.write_at.ensures.images still) in
    let write_run = next_leaves g.D.Disk.view file old c.cut.new.self c.write_at.new.self cut_run (c.write_at.ensures.time still) write_all in
    let still-2 = c.write_at.ensures.honest.1 still in
    next_leaves g.D.Disk.view file old c.write_at.new.self c.sync.new.self write_run (c.sync.ensures.time still-2) (in_file_still file (g.D.Disk.view.may_leave old) (g.D.Disk.view.may_leave c.write_at.new.self) (g.D.Disk.view.may_leave c.sync.new.self) Any write_all (c.sync.ensures.images still-2))

pub returns-clause-rests : goal.returns-clause-rests
returns-clause-rests g c =
    let file = c.args.file in
    let bytes = c.in_ok-bytes.bytes.items in
    let alone = written_alone c.deref-2.result.now (file_of file (g.D.Disk.view.seen c.args.disk.now)) (file_of file (g.D.Disk.view.seen c.cut.new.self)) (file_of file (g.D.Disk.view.seen c.write_at.new.self)) c.in_ok-cut.ensures.cut.step c.in_ok-write_at.ensures.written.step in
    let is : file_of file (g.D.Disk.view.seen c.sync.new.self) ≡ gated c.args.bodies.items =
    ap (file_of file) c.sync.ensures.seen ∙ alone ∙ c.deref-2.ensures.value ∙ c.in_ok-bytes.ensures.bytes ∙ ap gated c.deref.ensures.value in
    let whole : AreWhole c.args.bodies.items = subst AreWhole c.deref.ensures.value c.in_ok-bytes.ensures.whole in
    record {
      at_rest = subst (λ now. HasRestingGate now c.args.bodies.items) (sym is) (gated_rest c.args.bodies.items whole);
      durable = λ honest. c.in_ok-sync.ensures.durable (c.sync.ensures.honest.0 honest);
    }

pub returns-clause-whole : goal.returns-clause-whole
returns-clause-whole g c =
    let file = c.args.file in
    let alone = written_alone c.deref-2.result.now (file_of file (g.D.Disk.view.seen c.args.disk.now)) (file_of file (g.D.Disk.view.seen c.cut.new.self)) (file_of file (g.D.Disk.view.seen c.write_at.new.self)) c.in_ok-cut.ensures.cut.step c.in_ok-write_at.ensures.written.step in
    ap (file_of file) c.sync.ensures.seen ∙ alone ∙ c.deref-2.ensures.value ∙ c.in_ok-bytes.ensures.bytes ∙ ap gated c.deref.ensures.value

-- ---- which of its calls were done

pub returns-in_err-write_at-clause-told : goal.returns-in_err-write_at-clause-told
returns-in_err-write_at-clause-told g c =
    let file = c.args.file in
    let bytes = gated c.args.bodies.items in
    let is : c.deref-2.result.now ≡ bytes = c.deref-2.ensures.value ∙ c.in_ok-bytes.ensures.bytes ∙ ap gated c.deref.ensures.value in
    let old = g.D.Disk.view.told c.args.disk.now in
    let mid = g.D.Disk.view.told c.cut.new.self in
    let new = g.D.Disk.view.told c.write_at.new.self in
    let fault = c.in_err-write_at.field-0.0 in
    let first : TellsThen (AllDone (CutTo file 0 ∷ [])) old mid = tells_weaker (one_done (CutTo file 0)) old mid c.in_ok-cut.ensures.told in
    let second : TellsThen (BreaksOff fault (WriteAt file 0 bytes ∷ SyncOf file ∷ [])) mid new =
    subst (λ piece. TellsThen (BreaksOff fault (WriteAt file 0 piece ∷ SyncOf file ∷ [])) mid new) is (tells_weaker (breaks_here fault (WriteAt file 0 c.deref-2.result.now) (SyncOf file ∷ [])) mid new c.in_err-write_at.ensures.told) in
    told_some (rewrite_calls file c.args.bodies.items) fault c.from_residual-in_err-write_at.result c.from_residual-in_err-write_at.ensures.1 old new
    (tells_then (breaks_later fault (CutTo file 0 ∷ []) (WriteAt file 0 bytes ∷ SyncOf file ∷ [])) old mid new first second)

pub returns-in_err-sync-clause-told : goal.returns-in_err-sync-clause-told
returns-in_err-sync-clause-told g c =
    let file = c.args.file in
    let bytes = gated c.args.bodies.items in
    let is : c.deref-2.result.now ≡ bytes = c.deref-2.ensures.value ∙ c.in_ok-bytes.ensures.bytes ∙ ap gated c.deref.ensures.value in
    let old = g.D.Disk.view.told c.args.disk.now in
    let mid = g.D.Disk.view.told c.cut.new.self in
    let last = g.D.Disk.view.told c.write_at.new.self in
    let new = g.D.Disk.view.told c.sync.new.self in
    let fault = c.in_err-sync.field-0.0 in
    let first : TellsThen (AllDone (CutTo file 0 ∷ [])) old mid = tells_weaker (one_done (CutTo file 0)) old mid c.in_ok-cut.ensures.told in
    let second : TellsThen (AllDone (WriteAt file 0 bytes ∷ [])) mid last =
    subst (λ piece. TellsThen (AllDone (WriteAt file 0 piece ∷ [])) mid last) is (tells_weaker (one_done (WriteAt file 0 c.deref-2.result.now)) mid last c.in_ok-write_at.ensures.told) in
    let third = tells_weaker (breaks_here fault (SyncOf file) []) last new c.in_err-sync.ensures.told in
    told_some (rewrite_calls file c.args.bodies.items) fault c.from_residual-in_err-sync.result c.from_residual-in_err-sync.ensures.1 old new
    (tells_then (breaks_later fault (CutTo file 0 ∷ WriteAt file 0 bytes ∷ []) (SyncOf file ∷ [])) old last new
    (tells_then (all_then (CutTo file 0 ∷ []) (WriteAt file 0 bytes ∷ [])) old mid last first second) third)
