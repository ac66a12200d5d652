use Rattle.paxos_letter.proofs.ReadLemmas.{Testing}
use Rattle.paxos_letter.proofs.checking.first_fault.Given as goal

abbrev pub invariant-loop-packet : goal.invariant-loop-packet
invariant-loop-packet l =
    Testing l.members l.sender l.group l.number l.packet-index l.packets
