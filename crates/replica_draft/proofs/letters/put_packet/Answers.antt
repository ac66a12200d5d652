use Rattle.std.proofs.Common.{arith}
use Rattle.paxos_letter.proofs.CallerLemmas.{BallotsKeep}
use Rattle.replica_draft.proofs.SendLemmas.{CountsFit, keeps-packet}
use Rattle.replica_draft.proofs.letters.put_packet.Goals as goal

pub returns-clause-keep : goal.returns-clause-keep
returns-clause-keep c =
    let fits = c.packet.type_inv in
    let ballots : BallotsKeep 7 c.packet.result = grind (arith, fits) in
    let counts : CountsFit c.packet.result = grind (arith, fits) in
    rw (← c.packet.ensures) (keeps-packet c.args.me c.packet.result c.requires.me (rw c.packet.ensures c.requires.cursor) ballots counts)
