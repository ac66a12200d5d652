use Rattle.std.proofs.Common.{map}
use Rattle.replica_draft.specs.Draft.{said_in}
use Rattle.replica_draft.specs.Letters.{Carry}
use Rattle.replica_draft.proofs.letters.write_letters.Given as goal

abbrev pub invariant-loop-member : goal.invariant-loop-member
invariant-loop-member l = Carry (record { me = l.me; members = l.member }) (map said_in l.sends) l.letters.items
