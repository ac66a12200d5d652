use Rattle.disk_model.proofs.MadeLemmas.{tells_then}
use Rattle.disk_model.specs.declared.fault.DiskFault.TheVariants as Disk
use Rattle.gate_file.specs.Made.{read_calls}
use Rattle.gate_file.proofs.MadeLemmas.{told_some, after_sync_breaks, after_sync_memory}
use Rattle.gate_file.proofs.read_gates.ReadGates.read.Goals as goal

-- which of its calls were done
pub returns-in_err-bytes-clause-told : goal.returns-in_err-bytes-clause-told
returns-in_err-bytes-clause-told g c =
    let file = c.args.file in
    let old = g.D.Disk.view.told c.args.disk.now in
    let mid = g.D.Disk.view.told c.sync.new.self in
    let new = g.D.Disk.view.told c.read_file.new.disk in
    let fault = c.in_err-bytes.field-0.0 in
    told_some (read_calls file) fault c.from_residual-in_err-bytes.result c.from_residual-in_err-bytes.ensures.1 old new
    (tells_then (after_sync_breaks fault file) old mid new c.in_ok-sync.ensures.told c.in_err-bytes.ensures.told)

pub returns-in_err-bodies-clause-told : goal.returns-in_err-bodies-clause-told
returns-in_err-bodies-clause-told g c =
    let file = c.args.file in
    let old = g.D.Disk.view.told c.args.disk.now in
    let mid = g.D.Disk.view.told c.sync.new.self in
    let new = g.D.Disk.view.told c.read_file.new.disk in
    told_some (read_calls file) Disk.OutOfMemory c.from_residual-in_err-bodies.result c.from_residual-in_err-bodies.ensures.1 old new
    (tells_then (after_sync_memory file) old mid new c.in_ok-sync.ensures.told c.in_ok-bytes.ensures.told)
