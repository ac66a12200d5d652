use Rattle.std.proofs.Common.{take}
use Rattle.gate_file.proofs.ReadLemmas.{Writing}
use Rattle.gate_file.proofs.reading.gated.Given as goal

abbrev pub invariant-loop-body : goal.invariant-loop-body
invariant-loop-body l = Writing (take l.body-index l.bodies) l.bytes.items
