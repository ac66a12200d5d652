use Rattle.rounds_tests.proofs.Played.{AreFresh}
use Rattle.rounds_tests.specs.Meets.{view_through}
use Rattle.rounds_tests.specs.declared.meeting.MeetingDisk.{MeetingDisk}
use Rattle.rounds_tests.proofs.meets.meeting_disks.Given as goal

abbrev pub invariant-disks : goal.invariant-disks
invariant-disks l = AreFresh (view_through (λ (disk : MeetingDisk). disk.disk)) l.who l.disks.items
