use Rattle.std.proofs.Common.{pos, ◌≤ℤ◌, ◌-◌}
use Rattle.due_set.specs.Day.{OpensAtNone}
use Rattle.due_set.proofs.anacron.first_opening.Given as goal

abbrev pub invariant-loop-minute : goal.invariant-loop-minute
invariant-loop-minute l =
    record { since : l.fn.window.from.0 ≤ℤ pos l.minute; none : OpensAtNone l.opening l.zone.source l.fn.window.from.0 (pos l.minute) }

abbrev pub decreases-loop-minute : goal.decreases-loop-minute
decreases-loop-minute l = l.end - l.minute
