use Rattle.std.proofs.Common.{refl, ◌∙◌}
use Rattle.rounds_tests.proofs.Played.{taken_at}
use Rattle.rounds_tests.proofs.worlds.play_on.Goals as goal

pub commands-init : goal.commands-init
commands-init g c = record { world_is = c.requires.world; members = refl }

pub take-requires-clause-world : goal.take-requires-clause-world
take-requires-clause-world g c = λ lives borrowed. c.commands.invariant.world_is

pub take-requires-clause-taken : goal.take-requires-clause-taken
take-requires-clause-taken g c = λ lives borrowed.
    taken_at c.args.table.now.window c.args.world.book.members c.commands.world.book.members c.args.commands.now c.commands.command-index _ c.commands-test.true
    c.commands.invariant.members c.requires.taken

pub commands-preserved : goal.commands-preserved
commands-preserved g c = record { world_is = c.in_ok-take.ensures.world; members = c.in_ok-take.ensures.members ∙ c.commands.invariant.members }
