use Rattle.run_replay.proofs.QuietLemmas.{IsFurthestTo}
use Rattle.run_replay.proofs.quiet.furthest.Given as goal

abbrev pub invariant-others : goal.invariant-others
invariant-others l = IsFurthestTo l.seats l.other l.best
