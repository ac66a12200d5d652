use Rattle.std.proofs.Common.{sym, refl}
use Rattle.disk_model.specs.Told.{after_cut}
use Rattle.disk_model.proofs.DiskLemmas.{cut_done, cut_follows}
use Rattle.disk_model.proofs.MomentLemmas.{elapses}
use Rattle.disk_model.proofs.ToldLemmas.{same_told, on_ok, passes, cut_bytes, cut_synced, cut_touched}
use Rattle.disk_model.proofs.mem_disk.MemDiskDisk.cut.Goals as goal

pub returns-clause-cut : goal.returns-clause-cut
returns-clause-cut c = on_ok c.pass.result (cut_done c.args.file c.args.length c.args.self.now.files c.cut.new.self c.cut.ensures c.requires)

pub returns-clause-images : goal.returns-clause-images
returns-clause-images c honest = cut_follows c.args.file c.args.length c.args.self.now.files c.cut.new.self c.cut.ensures c.requires

pub returns-clause-time : goal.returns-clause-time
returns-clause-time c honest = elapses c.args.self.now.history.items c.and-self.result.items c.args.self.now.files c.cut.new.self c.args.file c.and-self.ensures

pub returns-clause-told : goal.returns-clause-told
returns-clause-told c =
    let change = c.cut.ensures in
    let effect = after_cut c.args.file c.args.length in
    let is = same_told refl refl refl (sym (cut_bytes c.args.file c.args.length c.args.self.now.files c.cut.new.self change)) (sym (cut_synced c.args.file c.args.length c.args.self.now.files c.cut.new.self change)) (sym (cut_touched c.args.file c.args.length c.args.self.now.files c.cut.new.self change)) in
    passes effect effect c.args.self.now.calls c.begin.new.self c.pass.new.self c.args.self.now.files c.cut.new.self c.begin.ensures.same c.in_ok-begin.ensures.ok c.pass.result is is c.pass.ensures.passed
