use Rattle.std.proofs.Common.{◌<◌, ◌++◌, sym, subst}
use Rattle.world_law.specs.Book.{BookState}
use Rattle.rounds_tests.proofs.views.run_shown.Goals as goal

pub run_free_shown-requires-clause-parts : goal.run_free_shown-requires-clause-parts
run_free_shown-requires-clause-parts g c = λ lives borrowed.
    let world = c.requires.world in
    record { rows = world.rows; situation = world.situation; are = c.take_parts-parts.ensures.parts c.args.table.now world.rows world.situation world.is }

pub run_free_shown-requires-clause-some : goal.run_free_shown-requires-clause-some
run_free_shown-requires-clause-some g c = λ lives borrowed. subst (λ (book : BookState). 0 < book.members) (sym c.take_parts-parts.ensures.book) c.requires.some

pub from_parts-requires-clause-parts : goal.from_parts-requires-clause-parts
from_parts-requires-clause-parts g c =
    let world = c.requires.world in
    let gone = c.in-Ok.ensures.goes world.rows world.situation (c.take_parts-parts.ensures.parts c.args.table.now world.rows world.situation world.is) in
    (c.args.table.now, record { rows = world.rows ++ gone.0; situation = gone.1; are = gone.3 })
