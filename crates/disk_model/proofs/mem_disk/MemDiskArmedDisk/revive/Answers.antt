use Rattle.disk_model.specs.Calls.{number_by}
use Rattle.disk_model.proofs.RestoreLemmas.{restored_is_left, restored_no_new_image, restored_durable, left_number, revived_told}
use Rattle.disk_model.proofs.mem_disk.MemDiskArmedDisk.revive.Goals as goal

pub returns-in-Some-clause-told : goal.returns-in-Some-clause-told
returns-in-Some-clause-told c =
    let calls = c.args.self.now.calls in
    let left = left_number calls.stopped (number_by calls.arm) c.in-Some.image c.in-Some.ensures in
    revived_told c.in-Some.image calls c.revive.new.self c.args.self.now.files c.restore.new.self c.restore.ensures left.0 left.1 c.revive.ensures

pub returns-in-Some-clause-left : goal.returns-in-Some-clause-left
returns-in-Some-clause-left c honest = restored_is_left c.in-Some.image c.args.self.now.files c.restore.new.self c.restore.ensures

pub returns-in-Some-clause-no_new_image : goal.returns-in-Some-clause-no_new_image
returns-in-Some-clause-no_new_image c honest image left = restored_no_new_image c.in-Some.image c.args.self.now.files c.restore.new.self c.restore.ensures image left

pub returns-in-Some-clause-synced : goal.returns-in-Some-clause-synced
returns-in-Some-clause-synced c honest stopped file image left = restored_durable c.in-Some.image c.args.self.now.files c.restore.new.self c.restore.ensures file image left
