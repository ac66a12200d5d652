use Rattle.std.proofs.Common.{◌≡◌, length, Err, subst}
use Rattle.disk_model.specs.Images.{InFileOnly, AllHave}
use Rattle.disk_model.proofs.CallerLemmas.{leaves_weaker}
use Rattle.disk_model.proofs.RunLemmas.{in_file_at_first}
use Rattle.gate_file.specs.Gates.{IsStaged}
use Rattle.gate_file.proofs.AppendLemmas.{write_after}
use Rattle.disk_model.specs.Images.{file_of}
use Rattle.disk_model.specs.Made.{MadeCalls}
use Rattle.disk_model.specs.Told.{TellsThen}
use Rattle.disk_model.specs.View.{LeavesOnly}
use Rattle.disk_model.proofs.MadeLemmas.{handed, made_after, made_done, made_sooner, tells_then, tells_weaker}
use Rattle.gate_file.specs.Faults.{gate_fault_of}
use Rattle.gate_file.specs.Made.{close_calls, read_calls}
use Rattle.gate_file.specs.ReadFile.{bodies_read}
use Rattle.gate_file.proofs.GateLemmas.{one_list}
use Rattle.gate_file.proofs.gate_file.GateFile.attach.Goals as goal

pub returns-clause-images : goal.returns-clause-images
returns-clause-images g c bodies pending honest staged =
    let old = c.args.disk.now in
    let file = c.args.file in
    let read = c.read.new.disk in
    let still = c.read.ensures.answer.honest_still.1 honest in
    let Q = IsStaged bodies pending in
    let first = leaves_weaker g.D.Disk.view old read (g.D.Disk.view.may_leave old) (InFileOnly file (g.D.Disk.view.may_leave old) Q) (c.read.ensures.images honest) (in_file_at_first file (g.D.Disk.view.may_leave old) Q staged) in
    let close = subst (λ f. AllHave f Q (g.D.Disk.view.may_leave read) → LeavesOnly g.D.Disk.view read c.close.new.disk (InFileOnly f (g.D.Disk.view.may_leave read) Q)) c.in_ok-read.ensures.file (c.close.ensures.images bodies pending still) in
    write_after g.D.Disk.view file Q old read c.close.new.disk Q (λ start image le left. g.met.D.Disk.counts_now read start image still le left) (λ bytes is. is) first (close (λ image left. staged image (c.read.ensures.no_new_image honest image left)))

-- ---- which of its calls were done

pub returns-in_err-read-clause-told : goal.returns-in_err-read-clause-told
returns-in_err-read-clause-told g c bodies has =
    let file = c.args.file in
    let given = c.in_err-read.field-0.0 in
    let gives = c.from_residual.ensures.1 in
    tells_weaker (made_sooner gate_fault_of gate_fault_of (read_calls file) (close_calls file (file_of file (g.D.Disk.view.seen c.args.disk.now)) (length bodies)) (Err given) c.from_residual.result c.from_residual.ensures.0
    (λ fault is. handed c.from_residual.result given gives (gate_fault_of fault) is)) (g.D.Disk.view.told c.args.disk.now) (g.D.Disk.view.told c.read.new.disk) c.in_err-read.ensures.told

pub returns-clause-told : goal.returns-clause-told
returns-clause-told g c bodies has =
    let file = c.args.file in
    let gates = c.in_ok-read.field-0 in
    let found = file_of file (g.D.Disk.view.seen c.args.disk.now) in
    let old = g.D.Disk.view.told c.args.disk.now in
    let mid = g.D.Disk.view.told c.read.new.disk in
    let new = g.D.Disk.view.told c.close.new.disk in
    let first = tells_weaker (made_done gate_fault_of (read_calls file) gates) old mid c.in_ok-read.ensures.told in
    let same : bodies_read gates ≡ bodies = one_list found (bodies_read gates) bodies c.in_ok-read.ensures.bodies has in
    let second : TellsThen (MadeCalls gate_fault_of (close_calls file found (length bodies)) c.close.result) mid new =
    subst (λ list. TellsThen (MadeCalls gate_fault_of (close_calls file found (length list)) c.close.result) mid new) same
    (subst (λ image. TellsThen (MadeCalls gate_fault_of (close_calls file (file_of file image) (length (bodies_read gates))) c.close.result) mid new) c.read.ensures.seen
    (subst (λ no. TellsThen (MadeCalls gate_fault_of (close_calls no (file_of no (g.D.Disk.view.seen c.read.new.disk)) (length (bodies_read gates))) c.close.result) mid new) c.in_ok-read.ensures.file c.close.ensures.told)) in
    tells_then (made_after gate_fault_of (read_calls file) (close_calls file found (length bodies)) c.close.result) old mid new first second
