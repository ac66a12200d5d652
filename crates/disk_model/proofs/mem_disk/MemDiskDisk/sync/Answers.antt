use Rattle.std.proofs.Common.{sym, refl}
use Rattle.disk_model.specs.Told.{after_sync}
use Rattle.disk_model.proofs.DiskLemmas.{sync_seen, sync_durable, sync_no_new_image}
use Rattle.disk_model.proofs.MomentLemmas.{elapses}
use Rattle.disk_model.proofs.ToldLemmas.{same_told, passed_told, sync_synced, sync_touched}
use Rattle.disk_model.proofs.mem_disk.MemDiskDisk.sync.Goals as goal

pub returns-clause-durable : goal.returns-clause-durable
returns-clause-durable c honest = sync_durable c.args.file c.args.self.now.files c.sync.new.self c.sync.ensures

pub returns-clause-seen : goal.returns-clause-seen
returns-clause-seen c = sync_seen c.args.file c.args.self.now.files c.sync.new.self c.sync.ensures

pub returns-clause-images : goal.returns-clause-images
returns-clause-images c honest = sync_no_new_image c.args.file c.args.self.now.files c.sync.new.self c.sync.ensures

pub returns-clause-time : goal.returns-clause-time
returns-clause-time c honest = elapses c.args.self.now.history.items c.and-self.result.items c.args.self.now.files c.sync.new.self c.args.file c.and-self.ensures

pub returns-clause-told : goal.returns-clause-told
returns-clause-told c =
    let change = c.sync.ensures in
    let is = same_told refl refl refl (sym (sync_seen c.args.file c.args.self.now.files c.sync.new.self change)) (sym (sync_synced c.args.file c.args.self.now.files c.sync.new.self change)) (sym (sync_touched c.args.file c.args.self.now.files c.sync.new.self change)) in
    passed_told (after_sync c.args.file) c.args.self.now.calls c.begin.new.self c.pass.new.self c.args.self.now.files c.sync.new.self c.begin.ensures.same c.in_ok-begin.ensures.ok is c.in_ok-pass.ensures.passed
