use Rattle.std.proofs.Common.{refl}
use Rattle.paxos_base.specs.Members.{with_member}
use Rattle.paxos_base.proofs.MemberLemmas.{has_member-set}
use Rattle.paxos_base.proofs.members.Members.with.Goals as goal

pub returns-clause-value : goal.returns-clause-value
unfolding with_member
returns-clause-value c = rw (← c.self.view_is) refl

pub returns-clause-members : goal.returns-clause-members
returns-clause-members c = rw (← c.self.view_is) (has_member-set c.self.inside.0 c.args.member c.requires)
