use Rattle.store_format.proofs.RecordLemmas.{reads_option}
use Rattle.store_format.proofs.body.record_in.Goals as goal

pub returns-clause-found : goal.returns-clause-found
returns-clause-found c =
    reads_option c.args.bytes.now c.in_ok-packet.field-0 c.in_ok-packet_in.field-0 c.record_of.result c.in_ok-packet_in.ensures.found c.record_of.ensures.kind c.record_of.ensures.packet
