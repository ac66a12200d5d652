use Rattle.std.proofs.Common.{◌≡◌}
use Rattle.step_spec.specs.Letters.{are_small}
use Rattle.replica_core.proofs.bounds.are_small.Given as goal

abbrev pub invariant-loop-packet : goal.invariant-loop-packet
invariant-loop-packet l = are_small l.size l.fn.packets ≡ are_small l.size l.packet-iterator
