use Rattle.std.proofs.Common.{◌≡◌, ◌∷◌, [], ◌*◌, length, Err, refl, sym, subst, arith}
use Rattle.disk_model.specs.Images.{file_of, Torn, HoldsPiece, InFileOnly}
use Rattle.disk_model.proofs.CallerLemmas.{started}
use Rattle.disk_model.proofs.RunLemmas.{in_file_at_first}
use Rattle.gate_file.specs.Gates.{IsStaged}
use Rattle.gate_file.specs.ReadFile.{file_read, bodies_read}
use Rattle.gate_file.proofs.AttachLemmas.{close_leaves}
use Rattle.gate_file.proofs.GateLemmas.{rest_after_close}
use Rattle.gate_file.proofs.RewriteLemmas.{leaves_any}
use Rattle.gate_file.proofs.MadeLemmas.{closes, told_some, written_as}
use Rattle.disk_model.proofs.MadeLemmas.{tells_weaker, write_breaks}
use Rattle.disk_model.specs.Made.{BreaksOff}
use Rattle.disk_model.specs.Told.{TellsThen}
use Rattle.disk_model.specs.View.{LeavesOnly}
use Rattle.gate_file.specs.Made.{close_calls}
use Rattle.gate_file.proofs.read_gates.ReadGates.close.Goals as goal

pub returns-in_err-write_synced-clause-images : goal.returns-in_err-write_synced-clause-images
returns-in_err-write_synced-clause-images g c bodies pending honest staged =
    let gates = c.args.self in
    let file = file_read gates in
    let old = c.args.disk.now in
    let now = file_of file (g.D.Disk.view.seen old) in
    let found = bodies_read gates in
    let place : c.len.result * 57 ≡ 57 * length found = omega (arith, c.len.ensures, gates.bodies.ok.0) in
    let not_closed = c.requires.not_closed c.if-closed.false in
    let first = started g.D.Disk.view old (InFileOnly file (g.D.Disk.view.may_leave old) (IsStaged bodies pending)) (λ image left. in_file_at_first file (g.D.Disk.view.may_leave old) (IsStaged bodies pending) staged image (g.met.D.Disk.only_now old image honest left)) in
    close_leaves g.D.Disk.view file pending bodies old old c.write_synced.new.disk (g.D.Disk.view.seen old) found (λ start image le left. g.met.D.Disk.counts_now old start image honest le left) (g.met.D.Disk.seen_is_left old honest) c.requires.has not_closed first
    (subst (λ at. LeavesOnly g.D.Disk.view old c.write_synced.new.disk (InFileOnly file (g.D.Disk.view.may_leave old) (Torn at 1 now))) place (c.write_synced.ensures.images honest))

pub returns-clause-images : goal.returns-clause-images
returns-clause-images g c bodies pending honest staged =
    let gates = c.args.self in
    let file = file_read gates in
    let old = c.args.disk.now in
    let now = file_of file (g.D.Disk.view.seen old) in
    let found = bodies_read gates in
    let place : c.len.result * 57 ≡ 57 * length found = omega (arith, c.len.ensures, gates.bodies.ok.0) in
    let not_closed = c.requires.not_closed c.if-closed.false in
    let first = started g.D.Disk.view old (InFileOnly file (g.D.Disk.view.may_leave old) (IsStaged bodies pending)) (λ image left. in_file_at_first file (g.D.Disk.view.may_leave old) (IsStaged bodies pending) staged image (g.met.D.Disk.only_now old image honest left)) in
    close_leaves g.D.Disk.view file pending bodies old old c.write_synced.new.disk (g.D.Disk.view.seen old) found (λ start image le left. g.met.D.Disk.counts_now old start image honest le left) (g.met.D.Disk.seen_is_left old honest) c.requires.has not_closed first
    (subst (λ at. LeavesOnly g.D.Disk.view old c.write_synced.new.disk (InFileOnly file (g.D.Disk.view.may_leave old) (Torn at 1 now))) place (c.write_synced.ensures.images honest))

pub returns-clause-rests : goal.returns-clause-rests
returns-clause-rests g c =
    let gates = c.args.self in
    let file = file_read gates in
    let old = c.args.disk.now in
    let now = file_of file (g.D.Disk.view.seen old) in
    let found = bodies_read gates in
    let place : c.len.result * 57 ≡ 57 * length found = omega (arith, c.len.ensures, gates.bodies.ok.0) in
    let closed = subst (λ at. HoldsPiece at (0 ∷ []) now (file_of file (g.D.Disk.view.seen c.write_synced.new.disk))) place c.in_ok-write_synced.ensures.written.step in
    record { at_rest = rest_after_close now (file_of file (g.D.Disk.view.seen c.write_synced.new.disk)) found c.requires.has c.requires.within closed; durable = c.in_ok-write_synced.ensures.durable }

-- ---- the other files

pub returns-in_err-write_synced-clause-elsewhere : goal.returns-in_err-write_synced-clause-elsewhere
returns-in_err-write_synced-clause-elsewhere g c honest =
    let old = c.args.disk.now in
    let file = file_read c.args.self in
    leaves_any g.D.Disk.view file old c.write_synced.new.disk (Torn (c.len.result * 57) 1 (file_of file (g.D.Disk.view.seen old))) (c.write_synced.ensures.images honest)

pub returns-clause-elsewhere : goal.returns-clause-elsewhere
returns-clause-elsewhere g c honest =
    let old = c.args.disk.now in
    let file = file_read c.args.self in
    leaves_any g.D.Disk.view file old c.write_synced.new.disk (Torn (c.len.result * 57) 1 (file_of file (g.D.Disk.view.seen old))) (c.write_synced.ensures.images honest)

-- which of its calls were done
pub returns-in_err-write_synced-clause-told : goal.returns-in_err-write_synced-clause-told
returns-in_err-write_synced-clause-told g c =
    let gates = c.args.self in
    let file = file_read gates in
    let count = length (bodies_read gates) in
    let bytes = file_of file (g.D.Disk.view.seen c.args.disk.now) in
    let place : c.len.result * 57 ≡ 57 * count = omega (arith, c.len.ensures, gates.bodies.ok.0) in
    let old = g.D.Disk.view.told c.args.disk.now in
    let new = g.D.Disk.view.told c.write_synced.new.disk in
    let fault = c.in_err-write_synced.field-0.0 in
    let written = written_as file (c.len.result * 57) (57 * count) (0 ∷ []) (0 ∷ []) (Err fault) old new place refl c.in_err-write_synced.ensures.told in
    let broken = tells_weaker (write_breaks fault file (57 * count) (0 ∷ []) []) old new written in
    told_some (close_calls file bytes count) fault c.from_residual.result c.from_residual.ensures.1 old new
    (subst (λ calls. TellsThen (BreaksOff fault calls) old new) (sym (closes file bytes count (c.requires.not_closed c.if-closed.false))) broken)
