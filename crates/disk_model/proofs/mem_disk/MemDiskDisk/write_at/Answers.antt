use Rattle.std.proofs.Common.{sym, ap, refl, ◌∙◌, Err}
use Rattle.std.proofs.lemmas.Result.{err_from_is_err_and}
use Rattle.disk_model.specs.Files.{IsSame}
use Rattle.disk_model.specs.Told.{after_write}
use Rattle.disk_model.proofs.DiskLemmas.{write_holds, write_follows, same_seen, same_synced, same_touched, same_images, is_same_back, torn_not_at_all}
use Rattle.disk_model.proofs.MomentLemmas.{elapses, elapses_alike}
use Rattle.disk_model.proofs.ToldLemmas.{same_told, on_ok, passes, wants_memory, write_done, write_synced, write_touched}
use Rattle.disk_model.proofs.mem_disk.MemDiskDisk.write_at.Goals as goal

-- ---- want of memory

same : (c : goal.After-from_residual-in_err-write_at) → IsSame c.args.self.now.files c.write_at.new.self
same c = c.in_err-write_at.ensures.err

pub returns-in_err-write_at-clause-images : goal.returns-in_err-write_at-clause-images
returns-in_err-write_at-clause-images c honest = torn_not_at_all c.args.file c.args.at _ _ _ (same_images c.args.self.now.files c.write_at.new.self (same c))

pub returns-in_err-write_at-clause-time : goal.returns-in_err-write_at-clause-time
returns-in_err-write_at-clause-time c honest =
    elapses_alike c.args.self.now.history.items c.args.self.now.files c.write_at.new.self (same_images _ _ (same c)) (same_images _ _ (is_same_back _ _ (same c)))

pub returns-in_err-write_at-clause-unchanged : goal.returns-in_err-write_at-clause-unchanged
returns-in_err-write_at-clause-unchanged c memory = same_seen c.args.self.now.files c.write_at.new.self (same c)

pub returns-in_err-write_at-clause-no_new_image : goal.returns-in_err-write_at-clause-no_new_image
returns-in_err-write_at-clause-no_new_image c memory honest = same_images c.args.self.now.files c.write_at.new.self (same c)

pub returns-in_err-write_at-clause-told : goal.returns-in_err-write_at-clause-told
returns-in_err-write_at-clause-told c =
    let effect = after_write c.args.file c.args.at c.args.bytes.now in
    let fault = err_from_is_err_and c.from_residual-in_err-write_at.result c.from_residual-in_err-write_at.ensures.1 in
    wants_memory effect effect c.from_residual-in_err-write_at.result c.args.self.now.calls c.begin.new.self c.args.self.now.files c.write_at.new.self c.begin.ensures.same c.in_ok-begin.ensures.ok
    (same_seen _ _ (same c)) (same_synced _ _ (same c)) (same_touched _ _ (same c)) (fault.1 ∙ ap Err fault.2)

-- ---- the write was done, whether the disk stopped then or not

pub returns-clause-written : goal.returns-clause-written
returns-clause-written c = on_ok c.pass.result (write_holds c.args.file c.args.at c.args.bytes.now c.args.self.now.files c.write_at.new.self c.in_ok-write_at.ensures.ok c.requires)

pub returns-clause-images : goal.returns-clause-images
returns-clause-images c honest = write_follows c.args.file c.args.at c.args.bytes.now c.args.self.now.files c.write_at.new.self c.in_ok-write_at.ensures.ok c.requires

pub returns-clause-time : goal.returns-clause-time
returns-clause-time c honest = elapses c.args.self.now.history.items c.and-history.result.items c.args.self.now.files c.write_at.new.self c.args.file c.and-history.ensures

pub returns-clause-told : goal.returns-clause-told
returns-clause-told c =
    let change = c.in_ok-write_at.ensures.ok in
    let effect = after_write c.args.file c.args.at c.args.bytes.now in
    let is = same_told refl refl refl (sym (write_done c.args.file c.args.at c.args.bytes.now c.args.self.now.files c.write_at.new.self change)) (sym (write_synced c.args.file c.args.at c.args.bytes.now c.args.self.now.files c.write_at.new.self change)) (sym (write_touched c.args.file c.args.at c.args.bytes.now c.args.self.now.files c.write_at.new.self change)) in
    passes effect effect c.args.self.now.calls c.begin.new.self c.pass.new.self c.args.self.now.files c.write_at.new.self c.begin.ensures.same c.in_ok-begin.ensures.ok c.pass.result is is c.pass.ensures.passed
