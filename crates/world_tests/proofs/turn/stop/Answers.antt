use Rattle.std.proofs.Common.{rules, None, sym, subst}
use Rattle.world_tests.specs.Seat.{GoesOnByTurn, SeatState}
use Rattle.world_tests.proofs.Goes.{stop_goes_on, stop_may_come}
use Rattle.world_tests.proofs.turn.stop.Goals as goal

pub commit-requires-clause-next : goal.commit-requires-clause-next
commit-requires-clause-next g c =
    stop_may_come c.args.table.now c.args.book.now c.reserve.new.self c.args.who c.args.seat.now c.nothing-out.result c.requires (search rules) c.reserve.ensures.same
    c.nothing-out.ensures

pub returns : goal.returns
returns g c =
    λ rows rests seated.
    subst (λ (s : SeatState). GoesOnByTurn c.args.table.now rows c.args.book.now c.commit.new.self c.args.who (record {
      members = s.members;
      running = None;
      durable = s.durable;
      waits = None;
    })) (sym c.seat.view_is)
    (stop_goes_on c.args.table.now c.args.book.now c.reserve.new.self c.commit.new.self c.args.who c.args.seat.now c.nothing-out.result (search rules)
    c.reserve.ensures.same c.nothing-out.ensures c.commit.ensures.commits c.commit.ensures.stands rows rests seated)
