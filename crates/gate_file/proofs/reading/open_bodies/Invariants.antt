use Rattle.std.proofs.Common.{length}
use Rattle.gate_file.proofs.ReadLemmas.{Reading}
use Rattle.gate_file.proofs.reading.open_bodies.Given as goal

abbrev pub invariant-loop-rest : goal.invariant-loop-rest
invariant-loop-rest l = Reading l.bytes l.bodies.items l.rest

abbrev pub decreases-loop-rest : goal.decreases-loop-rest
decreases-loop-rest l = length l.rest
