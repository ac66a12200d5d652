use Rattle.paxos_letter.proofs.ReadLemmas.{Testing-next}
use Rattle.paxos_letter.proofs.checking.first_fault.Goals as goal

pub loop-packet-preserved : goal.loop-packet-preserved
loop-packet-preserved c =
    rw c.in-Ok.ensures.ok.1 (Testing-next c.args.members c.args.sender c.loop-packet.group c.loop-packet.number c.loop-packet.packet-index c.args.packets.now _ c.fields_at.result c.loop-packet-test.true c.fields_at.ensures c.in-Ok.ensures.ok.0 c.loop-packet.invariant)
