use Rattle.rounds_tests.proofs.Played.{HasPlayed}
use Rattle.rounds_tests.proofs.worlds.send_again.Given as goal

abbrev pub invariant-times : goal.invariant-times
invariant-times g l = HasPlayed g.D.Disk.view l.table l.fn.world.book.members l.world
