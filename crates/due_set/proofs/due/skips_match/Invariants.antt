use Rattle.due_set.proofs.DueLemmas.{NoneMatchesBelow}
use Rattle.due_set.proofs.due.skips_match.Given as goal

abbrev pub invariant-loop-step : goal.invariant-loop-step
invariant-loop-step l = NoneMatchesBelow l.fields l.before l.shown l.step
