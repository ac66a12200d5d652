use Rattle.due_set.proofs.DueLemmas.{DiffersBelow}
use Rattle.due_set.proofs.due.is_first_shown.Given as goal

abbrev pub invariant-loop-back : goal.invariant-loop-back
invariant-loop-back l = DiffersBelow l.zone.source l.at.0 l.back
