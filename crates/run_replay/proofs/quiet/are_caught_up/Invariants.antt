use Rattle.std.proofs.Common.{◌≡◌, ℕ, ◌<◌, Some}
use Rattle.std.specs.List.{slice_get}
use Rattle.run_replay.specs.Quiet.{prefix_in}
use Rattle.run_replay.specs.declared.replay.Seat.{Seat}
use Rattle.run_replay.proofs.quiet.are_caught_up.Given as goal

abbrev pub invariant-seats : goal.invariant-seats
invariant-seats l = (who : ℕ) (seat : Seat) → who < l.seat-index → slice_get l.seats who ≡ Some seat → prefix_in seat ≡ l.prefix
