use Rattle.std.proofs.Common.{arith, ◌∙◌, ap}
use Rattle.paxos_base.specs.Members.{member_count}
use Rattle.paxos_base.proofs.MemberLemmas.{count_ones-member_count}
use Rattle.paxos_base.proofs.members.Members.count.Goals as goal

pub returns-clause-value : goal.returns-clause-value
returns-clause-value c = count_ones-member_count c.self.inside.0 (omega arith) ∙ ap member_count c.self.view_is
