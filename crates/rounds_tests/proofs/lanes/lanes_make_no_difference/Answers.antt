use Rattle.std.proofs.Common.{arith}
use Rattle.rounds_tests.proofs.Played.{later_in}
use Rattle.rounds_tests.proofs.lanes.lanes_make_no_difference.Goals as goal

pub is_same_in-requires-clause-taken : goal.is_same_in-requires-clause-taken
is_same_in-requires-clause-taken c = λ after borrowed window is. (omega arith, (omega arith, (later_in window is, tt)))

pub is_same_in-requires-2-clause-taken : goal.is_same_in-requires-2-clause-taken
is_same_in-requires-2-clause-taken c = λ after borrowed window is. (omega arith, (omega arith, (later_in window is, tt)))
