use Rattle.std.proofs.Common.{map, take}
use Rattle.replica_draft.specs.Draft.{said_in}
use Rattle.replica_draft.specs.Letters.{packets_to}
use Rattle.replica_draft.proofs.SendLemmas.{Putting}
use Rattle.replica_draft.proofs.letters.put_packets.Given as goal

abbrev pub invariant-loop-sent : goal.invariant-loop-sent
invariant-loop-sent l = Putting l.me (packets_to l.me l.member (map said_in (take l.sent-index l.sends))) l.fn.into.items l.into.items
