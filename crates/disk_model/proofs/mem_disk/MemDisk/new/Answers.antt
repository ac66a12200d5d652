use Rattle.std.proofs.Common.{ap, Some}
use Rattle.disk_model.proofs.RestoreLemmas.{new_seen, new_images, new_is_told}
use Rattle.disk_model.proofs.mem_disk.MemDisk.new.Goals as goal

pub returns-clause-seen : goal.returns-clause-seen
returns-clause-seen c = new_seen c.new.result c.new.ensures

pub returns-clause-images : goal.returns-clause-images
returns-clause-images c image left = new_images c.new.result c.new.ensures image left

pub returns-clause-told : goal.returns-clause-told
returns-clause-told c = ap Some (new_is_told c.new.result c.new.ensures c.new-3.result c.args.fails.items (ap (λ fails. fails.items) c.new-3.ensures.fails) c.new-3.ensures.arm c.new-3.ensures.stopped)
