use Rattle.std.proofs.Common.{◌≡◌, map}
use Rattle.turn_tests.specs.Jobs.{seat_of}
use Rattle.turn_tests.proofs.jobs.with_work.Given as goal

abbrev pub invariant-seats : goal.invariant-seats
invariant-seats g l = map seat_of l.jobs.items ≡ l.yielded
