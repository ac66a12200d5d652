use Rattle.std.proofs.Common.{pos}
use Rattle.due_set.specs.Due.{IsNotDueIn}
use Rattle.due_set.proofs.scan.first_due_by_minute.Given as goal

abbrev pub invariant-loop-minute : goal.invariant-loop-minute
invariant-loop-minute l = IsNotDueIn l.fields l.zone.source (pos l.first) (pos l.minute)
