use Rattle.std.proofs.Common.{ℕ, List, Some, ap, ◌∙◌}
use Rattle.disk_model.specs.Calls.{is_listing}
use Rattle.disk_model.specs.MemDisk.{new_told}
use Rattle.script_play.proofs.Fresh.{fresh, fresh_push}
use Rattle.script_play.proofs.start.empty_disks.Goals as goal

pub disks-preserved : goal.disks-preserved
disks-preserved c =
    fresh_push c.disks.disks.items c.push.new.self.items c.new-in-disks.result c.disks._number c.in_ok-push.ensures.items c.disks.invariant.0 c.disks.invariant.1
    (fresh c.new-in-disks.result c.new-in-disks.ensures.images (c.new-in-disks.ensures.told ∙ ap (λ (calls : List ℕ). Some (new_told (is_listing calls))) c.new.ensures.items))
