use Rattle.rounds_tests.proofs.Played.{later_in}
use Rattle.rounds_tests.proofs.lanes.crowded_world.Goals as goal

pub play_on-requires-clause-taken : goal.play_on-requires-clause-taken
play_on-requires-clause-taken g c = λ lives borrowed. (later_in c.args.table.now.window c.requires.hour, tt)
