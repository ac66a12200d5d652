use Rattle.std.proofs.Common.{◌≡◌, map}
use Rattle.turn_tests.specs.Jobs.{seat_of}
use Rattle.turn_tests.proofs.jobs.without_work.Given as goal

abbrev pub invariant-jobs : goal.invariant-jobs
invariant-jobs g l = l.seats.items ≡ map seat_of l.yielded
