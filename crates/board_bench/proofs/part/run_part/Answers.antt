use Rattle.std.proofs.Common.{◌<◌, sym, subst}
use Rattle.world_law.specs.Book.{BookState}
use Rattle.board_bench.proofs.part.run_part.Goals as goal

pub run_free_shown-requires-clause-parts : goal.run_free_shown-requires-clause-parts
run_free_shown-requires-clause-parts g c = λ lives borrowed.
    let world = c.requires.world in
    record { rows = world.rows; situation = world.situation; are = c.take_parts-parts.ensures.parts c.args.table.now world.rows world.situation world.is }

pub run_free_shown-requires-clause-some : goal.run_free_shown-requires-clause-some
run_free_shown-requires-clause-some g c = λ lives borrowed. subst (λ (book : BookState). 0 < book.members) (sym c.take_parts-parts.ensures.book) c.requires.some
