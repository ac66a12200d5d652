use Rattle.std.proofs.Common.{arith}
use Rattle.std.proofs.lemmas.Int.{ints}
use Rattle.rounds_tests.proofs.Played.{later_in}
use Rattle.rounds_tests.proofs.parts.a_world_plays_on_from_its_parts.Goals as goal

pub world_after-requires-clause-taken : goal.world_after-requires-clause-taken
world_after-requires-clause-taken g c = λ borrowed.
    let later = later_in c.in_ok-table.table.window c.in_ok-table.ensures in
    (omega arith, (omega arith, (later, (later, (omega arith, (omega arith, ((omega arith, (omega (arith, ints), omega (arith, ints))), (later, (later, (tt, (omega arith, (tt, (later, (omega arith, (tt, ((omega arith, later), tt))))))))))))))))

pub other_place-requires-clause-taken : goal.other_place-requires-clause-taken
other_place-requires-clause-taken g c = λ borrowed.
    let later = later_in c.in_ok-table.table.window c.in_ok-table.ensures in
    (omega arith, (omega arith, (later, (later, (omega arith, (omega arith, ((omega arith, (omega (arith, ints), omega (arith, ints))), (later, (later, (tt, (omega arith, (tt, (later, (omega arith, (tt, ((omega arith, later), tt))))))))))))))))
