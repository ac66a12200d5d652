use Rattle.std.proofs.Common.{sym, subst}
use Rattle.rounds_tests.specs.Plays.{AreTaken}
use Rattle.rounds_tests.proofs.worlds.world_after.Goals as goal

pub play_on-requires-clause-taken : goal.play_on-requires-clause-taken
play_on-requires-clause-taken g c = λ lives borrowed.
    subst (λ members. AreTaken c.args.table.now.window members c.args.commands.now) (sym c.in_ok-world.ensures.members) c.requires.taken
