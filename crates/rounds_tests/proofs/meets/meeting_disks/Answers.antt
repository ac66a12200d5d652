use Rattle.std.proofs.Common.{◌≡◌, arith, ◌∙◌}
use Rattle.rounds_tests.proofs.Played.{fresh_next, fresh_none}
use Rattle.rounds_tests.specs.Meets.{view_through}
use Rattle.rounds_tests.specs.declared.meeting.MeetingDisk.{MeetingDisk}
use Rattle.rounds_tests.proofs.meets.meeting_disks.Goals as goal

pub disks-init : goal.disks-init
disks-init c = fresh_none (view_through (λ (disk : MeetingDisk). disk.disk)) c.new-disks.result.items c.new-disks.ensures.items

pub disks-preserved : goal.disks-preserved
disks-preserved c =
    fresh_next (view_through (λ (disk : MeetingDisk). disk.disk)) c.disks.who c.disks.disks.items c.push.new.self.items _ c.disks.invariant c.in_ok-meeting_disk.ensures
    c.in_ok-push.ensures.items

pub returns-clause-count : goal.returns-clause-count
returns-clause-count c =
    let whole : c.disks.who ≡ c.args.count = omega (arith, c.disks-test.false, c.disks.auto.who-end) in
    c.disks.invariant.count_is ∙ whole

pub returns-clause-fresh : goal.returns-clause-fresh
returns-clause-fresh c = c.disks.invariant.fresh
