use Rattle.std.proofs.Common.{◌≡◌, arith, ◌∙◌}
use Rattle.disk_model.specs.MemDisk.{view_of}
use Rattle.rounds_tests.proofs.Played.{fresh_next, fresh_none}
use Rattle.rounds_tests.proofs.worlds.disks.Goals as goal

pub disks-init : goal.disks-init
disks-init c = fresh_none view_of c.new-disks.result.items c.new-disks.ensures.items

pub disks-preserved : goal.disks-preserved
disks-preserved c = fresh_next view_of c.disks._disk c.disks.disks.items c.push.new.self.items c.empty_disk.result c.disks.invariant c.empty_disk.ensures c.in_ok-push.ensures.items

pub returns-clause-count : goal.returns-clause-count
returns-clause-count c =
    let whole : c.disks._disk ≡ c.args.count = omega (arith, c.disks-test.false, c.disks.auto._disk-end) in
    c.disks.invariant.count_is ∙ whole

pub returns-clause-fresh : goal.returns-clause-fresh
returns-clause-fresh c = c.disks.invariant.fresh
