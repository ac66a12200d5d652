use Rattle.std.proofs.Common.{◌∷◌, ◌∙◌, sym, ap}
use Rattle.paxos_letter.specs.Decoding.{packet_of, packets_in}
use Rattle.paxos_letter.proofs.PacketBack.{packet_of-fields_of}
use Rattle.paxos_letter.proofs.letter.PacketsIterator.next.Goals as goal

pub returns-clause-steps : goal.returns-clause-steps
returns-clause-steps c =
    let first = sym (packet_of-fields_of c.fields_at.result.from c.packet_of.result) ∙ ap packet_of (c.packet_of.ensures ∙ c.fields_at.ensures) in
    sym c.self.view_is ∙ ap packets_in (c.in_ok-packet.ensures.cases.0) ∙ ap (λ p. p ∷ packets_in c.in_ok-packet.rest.now) (sym first)
