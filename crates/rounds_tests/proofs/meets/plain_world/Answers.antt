use Rattle.std.proofs.Common.{arith}
use Rattle.rounds_tests.proofs.Played.{later_in}
use Rattle.rounds_tests.proofs.meets.plain_world.Goals as goal

pub world_after-requires-clause-taken : goal.world_after-requires-clause-taken
world_after-requires-clause-taken g c = λ lives borrowed. (omega arith, tt)

pub play_on-requires-clause-taken : goal.play_on-requires-clause-taken
play_on-requires-clause-taken g c = λ lives borrowed. (later_in c.args.table.now.window c.requires, tt)
