use Rattle.std.proofs.Common.{◌≡◌}
use Rattle.board_tests.proofs.threads.look_on.Given as goal

abbrev pub invariant-looks : goal.invariant-looks
invariant-looks g l = l.reader.total ≡ l.fn.reader.total
