use Rattle.std.proofs.Common.{rules}
use Rattle.world_tests.proofs.Scenes.{scene_begins}
use Rattle.world_tests.proofs.scene.begin.Goals as goal

pub returns : goal.returns
returns g c =
    scene_begins c.args.table.now c.new-book.result c.args.members c.in_ok-seats.seats.items (c.new-book.ensures.stands c.args.table.now) c.new-book.ensures.members (search rules)
    c.new-book.ensures.pending c.in_ok-seats.ensures
