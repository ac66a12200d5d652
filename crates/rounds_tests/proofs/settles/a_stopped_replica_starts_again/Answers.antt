use Rattle.std.proofs.Common.{arith}
use Rattle.rounds_tests.proofs.Played.{first_in}
use Rattle.rounds_tests.proofs.settles.a_stopped_replica_starts_again.Goals as goal

pub world_after-requires-clause-taken : goal.world_after-requires-clause-taken
world_after-requires-clause-taken c = λ after borrowed. (omega arith, ((omega arith, first_in after.in_ok-table.table.window after.in_ok-table.ensures), tt))
