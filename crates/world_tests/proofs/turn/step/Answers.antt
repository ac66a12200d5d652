use Rattle.std.proofs.Common.{sym, subst, ◌∙◌}
use Rattle.std.specs.Option.{option_to_list}
use Rattle.history.specs.Book.{answer_to}
use Rattle.world_law.proofs.Called.{alike_stands}
use Rattle.world_tests.specs.Seat.{GoesOnByTurn, SeatState}
use Rattle.world_tests.proofs.Goes.{made_before, step_goes_on, step_may_ask, step_may_come}
use Rattle.world_tests.proofs.turn.step.Goals as goal

pub call_for-requires-clause-asks : goal.call_for-requires-clause-asks
call_for-requires-clause-asks g c =
    λ row now call is.
    step_may_ask c.args.table.now c.args.book.now c.reserve.new.self c.args.who c.args.cause now c.args.seat.now c.take.new.seat c.in_ok-out.out row c.requires c.in_ok-out.ensures
    c.reserve.ensures.same c.in_ok-reserve.ensures.room call is

pub commit-requires-clause-next : goal.commit-requires-clause-next
commit-requires-clause-next g c =
    step_may_come c.args.table.now c.args.book.now c.call_for.new.book c.args.who c.args.cause c.in_ok-call.call c.args.seat.now c.take.new.seat c.in_ok-out.out c.requires
    c.in_ok-out.ensures (c.in_ok-call.ensures.members ∙ c.reserve.ensures.same.members)
    (λ rows behind. c.call_for.ensures.stands rows (alike_stands c.args.table.now rows c.args.book.now c.reserve.new.self c.reserve.ensures.same behind))
    (made_before c.args.table.now c.args.book.now c.reserve.new.self (option_to_list c.in_ok-out.out.call) c.in_ok-call.call c.reserve.ensures.same c.in_ok-call.ensures.made)

pub commit-requires-clause-room : goal.commit-requires-clause-room
commit-requires-clause-room g c = c.call_for.ensures.room _ c.in_ok-reserve.ensures.room

pub returns : goal.returns
returns g c =
    λ rows rests seated.
    rw c.answer_of-seat-inside.ensures
    (subst (λ (s : SeatState). GoesOnByTurn c.args.table.now rows c.args.book.now c.commit.new.self c.args.who (record {
      members = s.members;
      running = s.running;
      durable = s.durable;
      waits = answer_to c.in_ok-call.call;
    })) (sym c.seat.view_is)
    (step_goes_on c.args.table.now c.args.book.now c.call_for.new.book c.commit.new.self c.args.who c.args.cause c.in_ok-call.call c.args.seat.now c.take.new.seat c.in_ok-out.out
    c.in_ok-out.ensures (record {
      members = c.in_ok-call.ensures.members ∙ c.reserve.ensures.same.members;
      stands =
          λ rows behind. c.call_for.ensures.stands rows (alike_stands c.args.table.now rows c.args.book.now c.reserve.new.self c.reserve.ensures.same behind);
      commits = c.commit.ensures.commits;
      added = c.commit.ensures.stands;
    })
    (made_before c.args.table.now c.args.book.now c.reserve.new.self (option_to_list c.in_ok-out.out.call) c.in_ok-call.call c.reserve.ensures.same c.in_ok-call.ensures.made)
    rows rests seated))
