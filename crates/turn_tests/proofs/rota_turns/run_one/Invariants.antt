use Rattle.std.proofs.Common.{◌≡◌}
use Rattle.turn_book.specs.Turns.{IsSeatOf, number_of}
use Rattle.turn_tests.proofs.rota_turns.run_one.Given as goal

abbrev pub invariant-tries : goal.invariant-tries
invariant-tries g l = record {
  seat : IsSeatOf l.book l.job.seat;
  who : number_of l.job.seat ≡ l.fn.who;
}
