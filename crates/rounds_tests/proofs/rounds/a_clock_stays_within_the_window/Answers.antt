use Rattle.std.proofs.Common.{arith}
use Rattle.std.proofs.lemmas.Int.{ints}
use Rattle.rounds_tests.proofs.Played.{later_in}
use Rattle.rounds_tests.proofs.rounds.a_clock_stays_within_the_window.Goals as goal

pub world_after-requires-clause-taken : goal.world_after-requires-clause-taken
world_after-requires-clause-taken c = λ after borrowed. ((omega arith, (omega (arith, ints), omega (arith, ints))), (omega arith, (later_in after.in_ok-table.table.window after.in_ok-table.ensures, tt)))
