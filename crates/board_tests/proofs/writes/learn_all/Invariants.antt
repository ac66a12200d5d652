use Rattle.std.proofs.Common.{◌≡◌, true}
use Rattle.launch_machine.specs.Machine.{StandsFor}
use Rattle.board_tests.proofs.writes.learn_all.Given as goal

abbrev pub invariant-told : goal.invariant-told
invariant-told l = StandsFor l.fn.table l.writer.machine × (l.writer.ready ≡ true) × (l.writer.board ≡ l.fn.writer.board)
