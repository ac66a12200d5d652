use Rattle.run_replay.specs.Start.{AreFreshSeats}
use Rattle.run_replay.proofs.start.fresh_seats.Given as goal

abbrev pub invariant-members : goal.invariant-members
invariant-members l = AreFreshSeats l.table l.members l.me l.seats.items
