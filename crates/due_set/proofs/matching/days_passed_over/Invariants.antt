use Rattle.due_set.specs.Matching.{MatchNoneOfDays}
use Rattle.due_set.proofs.matching.days_passed_over.Given as goal

abbrev pub invariant-loop-days : goal.invariant-loop-days
invariant-loop-days l = MatchNoneOfDays l.fields l.date l.weekday l.days
