use Rattle.world_tests.proofs.Scenes.{AreFirst}
use Rattle.world_tests.proofs.scene.first_seats.Given as goal

abbrev pub invariant-loop-who : goal.invariant-loop-who
invariant-loop-who g l = AreFirst l.table l.members l.who l.seats.items
