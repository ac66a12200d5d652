use Rattle.std.proofs.Common.{arith}
use Rattle.rounds_tests.proofs.Played.{last_in}
use Rattle.rounds_tests.proofs.versions.a_walk_adopts_a_version.Goals as goal

pub world_after-requires-clause-taken : goal.world_after-requires-clause-taken
world_after-requires-clause-taken c = λ after borrowed. ((omega arith, last_in after.in_ok-table.table.window after.in_ok-table.ensures), tt)
