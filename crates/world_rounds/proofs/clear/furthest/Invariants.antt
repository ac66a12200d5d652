use Rattle.world_rounds.proofs.ClearLemmas.{IsFurthestTo}
use Rattle.world_rounds.proofs.clear.furthest.Given as goal

abbrev pub invariant-others : goal.invariant-others
invariant-others g l = IsFurthestTo l.members l.other l.best
