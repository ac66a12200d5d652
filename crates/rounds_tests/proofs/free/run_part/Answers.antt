use Rattle.std.proofs.Common.{◌<◌, ◌++◌, sym, ap, ◌∙◌, subst}
use Rattle.world_law.specs.Book.{BookState}
use Rattle.rounds_tests.proofs.free.run_part.Goals as goal

pub run_free-requires-clause-parts : goal.run_free-requires-clause-parts
run_free-requires-clause-parts g c = λ lives borrowed.
    let world = c.requires.world in
    record { rows = world.rows; situation = world.situation; are = c.take_parts-parts.ensures.parts c.args.table.now world.rows world.situation world.is }

pub run_free-requires-clause-some : goal.run_free-requires-clause-some
run_free-requires-clause-some g c = λ lives borrowed. subst (λ (book : BookState). 0 < book.members) (sym c.take_parts-parts.ensures.book) c.requires.some

pub from_parts-requires-clause-parts : goal.from_parts-requires-clause-parts
from_parts-requires-clause-parts g c =
    let world = c.requires.world in
    let gone = c.in-Ok.ensures.goes world.rows world.situation (c.take_parts-parts.ensures.parts c.args.table.now world.rows world.situation world.is) in
    (c.args.table.now, record { rows = world.rows ++ gone.0; situation = gone.1; are = gone.3 })

pub returns-in-Ok-clause-world : goal.returns-in-Ok-clause-world
returns-in-Ok-clause-world g c =
    let world = c.requires.world in
    let gone = c.in-Ok.ensures.goes world.rows world.situation (c.take_parts-parts.ensures.parts c.args.table.now world.rows world.situation world.is) in
    record {
      rows = world.rows ++ gone.0;
      situation = gone.1;
      is = c.from_parts.ensures.world c.args.table.now (world.rows ++ gone.0) gone.1 gone.3;
    }

pub returns-in-Ok-clause-members : goal.returns-in-Ok-clause-members
returns-in-Ok-clause-members g c =
    ap (λ (book : BookState). book.members) c.from_parts.ensures.book ∙ c.in-Ok.ensures.members ∙ ap (λ (book : BookState). book.members) c.take_parts-parts.ensures.book
