use Rattle.std.proofs.Common.{take, vec_len}
use Rattle.std.specs.Prelude.{vec_capacity}
use Rattle.paxos_letter.proofs.WriteLemmas.{Writing, Room}
use Rattle.paxos_letter.proofs.writing.put_packets.Given as goal

abbrev pub invariant-loop-packet : goal.invariant-loop-packet
invariant-loop-packet l =
    Writing l.from l.fn.into.items l.into.items (take l.packet-index l.packets) × Room (vec_capacity l.fn.into) (vec_capacity l.into) (vec_len l.fn.into) (vec_len l.into) l.packet-index
