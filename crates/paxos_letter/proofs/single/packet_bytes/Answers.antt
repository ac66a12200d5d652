use Rattle.std.proofs.Common.{rules, subst}
use Rattle.paxos_letter.specs.Fields.{FitPacketFields}
use Rattle.paxos_letter.proofs.single.packet_bytes.Goals as goal

pub returns-clause-fits : goal.returns-clause-fits
returns-clause-fits c =
    let fits : FitPacketFields c.fields_of.result = search rules in
    subst FitPacketFields c.fields_of.ensures fits
