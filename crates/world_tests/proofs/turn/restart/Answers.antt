use Rattle.std.proofs.Common.{rules, Some, sym, subst}
use Rattle.world_tests.specs.Seat.{GoesOnByTurn, IsStarted, SeatState}
use Rattle.world_tests.proofs.Goes.{restart_goes_on, restart_may_come}
use Rattle.world_tests.proofs.turn.restart.Goals as goal

pub commit-requires-clause-next : goal.commit-requires-clause-next
commit-requires-clause-next g c =
    restart_may_come c.args.table.now c.args.book.now c.reserve.new.self c.args.who c.args.seat.now c.nothing-out.result c.requires (search rules)
    c.reserve.ensures.same c.nothing-out.ensures

pub returns : goal.returns
returns g c =
    λ rows rests seated.
    subst (λ (s : SeatState). GoesOnByTurn c.args.table.now rows c.args.book.now c.commit.new.self c.args.who (record {
      members = s.members;
      running = Some c.in_ok-start.field-0;
      durable = s.durable;
      waits = s.waits;
    })) (sym c.seat.view_is)
    (restart_goes_on c.args.table.now c.args.book.now c.reserve.new.self c.commit.new.self c.args.who c.args.seat.now c.in_ok-start.field-0 c.nothing-out.result (search rules)
    (subst (λ (s : SeatState). IsStarted c.args.table.now c.args.who s.members s.durable c.in_ok-start.field-0) c.seat.view_is c.in_ok-start.ensures) c.reserve.ensures.same
    c.nothing-out.ensures c.commit.ensures.commits c.commit.ensures.stands rows rests seated)
