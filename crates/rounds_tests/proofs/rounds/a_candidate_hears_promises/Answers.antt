use Rattle.std.proofs.Common.{arith}
use Rattle.rounds_tests.proofs.Played.{later_in}
use Rattle.rounds_tests.proofs.rounds.a_candidate_hears_promises.Goals as goal

pub counts-requires-clause-taken : goal.counts-requires-clause-taken
counts-requires-clause-taken c = λ after borrowed window is. (omega arith, (later_in window is, tt))
