use Rattle.std.proofs.Common.{rules}
use Rattle.world_tests.proofs.Goes.{IsAwaited, arrival_goes_on, arrival_may_come}
use Rattle.world_tests.proofs.turn.arrive.Goals as goal

pub commit-requires-clause-next : goal.commit-requires-clause-next
commit-requires-clause-next g c =
    let awaited : IsAwaited c.args.book.now c.args.late = record { there = search rules; first = search rules } in
    arrival_may_come c.args.table.now c.requires.0 c.args.book.now c.reserve.new.self c.args.late c.nothing-out.result c.requires.1 awaited c.reserve.ensures.same
    c.nothing-out.ensures

pub returns : goal.returns
returns g c =
    let awaited : IsAwaited c.args.book.now c.args.late = record { there = search rules; first = search rules } in
    arrival_goes_on c.args.table.now c.args.book.now c.reserve.new.self c.commit.new.self c.args.late c.nothing-out.result awaited c.reserve.ensures.same c.nothing-out.ensures
    c.commit.ensures.commits c.commit.ensures.stands
