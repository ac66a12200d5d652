use Rattle.world_tests.proofs.Scenes.{first_next}
use Rattle.world_tests.proofs.scene.first_seats.Goals as goal

pub loop-who-preserved : goal.loop-who-preserved
loop-who-preserved g c =
    rw c.in_ok-push.ensures.items
    (first_next c.args.table.now c.args.members c.loop-who.who c.loop-who.seats.items c.in_ok-first_seat.field-0 c.loop-who.invariant c.in_ok-first_seat.ensures)
