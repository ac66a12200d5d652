use Rattle.rounds_tests.proofs.Played.{HasPlayed}
use Rattle.rounds_tests.proofs.worlds.play_on.Given as goal

abbrev pub invariant-commands : goal.invariant-commands
invariant-commands g l = HasPlayed g.D.Disk.view l.table l.fn.world.book.members l.world
