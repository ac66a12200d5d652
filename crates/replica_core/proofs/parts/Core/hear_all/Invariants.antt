use Rattle.replica_core.proofs.HearLemmas.{Hearing}
use Rattle.std.proofs.Common.{length}
use Rattle.replica_core.proofs.parts.Core.hear_all.Given as goal

abbrev pub invariant-loop-packet : goal.invariant-loop-packet
invariant-loop-packet l = Hearing l.table l.self l.from l.letter.packets l.packets l.asked l.draft

abbrev pub decreases-loop-packet : goal.decreases-loop-packet
decreases-loop-packet l = length l.packets
