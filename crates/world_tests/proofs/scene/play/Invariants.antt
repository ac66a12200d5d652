use Rattle.world_tests.specs.Scene.{IsLegalScene}
use Rattle.world_tests.proofs.scene.play.Given as goal

abbrev pub invariant-loop-turn : goal.invariant-loop-turn
invariant-loop-turn g l = IsLegalScene l.table l.scene.book l.scene.seats.items
