use Rattle.std.proofs.Common.{◌+◌, ◌++◌, ap, subst, ◌∙◌, rules, length, vec_len}
use Rattle.paxos_letter.specs.Fields.{bytes_of, FitPacketFields}
use Rattle.paxos_letter.proofs.WriteLemmas.{Writing-next, Room-next}
use Rattle.paxos_letter.proofs.writing.put_packets.Goals as goal

pub loop-packet-preserved : goal.loop-packet-preserved
loop-packet-preserved c =
    let fits : FitPacketFields c.fields_of.result = search rules in (
      Writing-next c.args.from c.args.into.now.items c.loop-packet.into.items c.extend_from_slice.new.self.items c.args.packets.now c.loop-packet.packet-index c.packet-item.result c.loop-packet-test.true c.packet-item.is
          (c.in_ok-extend_from_slice.ensures.items ∙ ap (λ bytes. c.loop-packet.into.items ++ bytes) (c.bytes_of.ensures ∙ ap bytes_of c.fields_of.ensures))
          (subst FitPacketFields c.fields_of.ensures fits)
          c.loop-packet.invariant.0,
      Room-next _ _ _ _ _ _ c.loop-packet.packet-index c.extend_from_slice.ensures.capacity (c.in_ok-extend_from_slice.ensures.len ∙ ap (λ n. vec_len c.loop-packet.into + n) (ap length c.bytes_of.ensures)) c.loop-packet.invariant.1,
    )
