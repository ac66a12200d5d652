use Rattle.run_replay.proofs.StartLemmas.{seats_next}
use Rattle.run_replay.proofs.start.fresh_seats.Goals as goal

pub members-preserved : goal.members-preserved
members-preserved c =
    seats_next c.args.table.now c.args.members c.members.me c.members.seats.items c.push.new.self.items c.in_ok-seat.seat c.members.invariant c.in_ok-seat.ensures c.in_ok-push.ensures.items
