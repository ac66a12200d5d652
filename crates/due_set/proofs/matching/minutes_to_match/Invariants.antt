use Rattle.std.proofs.Common.{◌-◌}
use Rattle.due_set.specs.Matching.{MatchNoneOf}
use Rattle.due_set.proofs.matching.minutes_to_match.Given as goal

abbrev pub invariant-loop-passed : goal.invariant-loop-passed
invariant-loop-passed l = MatchNoneOf l.fields l.from l.passed

abbrev pub decreases-loop-passed : goal.decreases-loop-passed
decreases-loop-passed l = l.count - l.passed
