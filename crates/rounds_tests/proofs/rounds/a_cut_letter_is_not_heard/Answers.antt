use Rattle.std.proofs.Common.{arith}
use Rattle.rounds_tests.proofs.Played.{later_in}
use Rattle.rounds_tests.proofs.rounds.a_cut_letter_is_not_heard.Goals as goal

pub counts-requires-clause-taken : goal.counts-requires-clause-taken
counts-requires-clause-taken c = λ after borrowed window is. (tt, (omega arith, (tt, (later_in window is, tt))))
