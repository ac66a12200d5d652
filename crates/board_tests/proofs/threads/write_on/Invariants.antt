use Rattle.std.proofs.Common.{◌≡◌, true}
use Rattle.launch_machine.specs.Machine.{StandsFor}
use Rattle.board_tests.proofs.threads.write_on.Given as goal

abbrev pub invariant-bases : goal.invariant-bases
invariant-bases g l = StandsFor l.fn.table l.writer.machine × (l.writer.ready ≡ true)
