use Rattle.std.proofs.Common.{◌≡◌, ◌++◌}
use Rattle.paxos_tests.proofs.letter.packets_of.Given as goal

abbrev pub invariant-loop-packet : goal.invariant-loop-packet
invariant-loop-packet l = l.items.items ++ l.packet-iterator ≡ l.letter.packets
