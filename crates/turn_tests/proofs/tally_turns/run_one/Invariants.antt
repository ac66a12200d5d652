use Rattle.std.proofs.Common.{◌≡◌}
use Rattle.turn_book.specs.Turns.{IsSeatOf, number_of}
use Rattle.turn_tests.proofs.tally_turns.run_one.Given as goal

abbrev pub invariant-rows : goal.invariant-rows
invariant-rows g l = record {
  seat : IsSeatOf l.book l.job.seat;
  who : number_of l.job.seat ≡ l.fn.who;
}
