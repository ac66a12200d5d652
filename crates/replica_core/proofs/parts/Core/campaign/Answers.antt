use Rattle.std.proofs.Common.{◌∙◌, ap, ◌+◌, ◌*◌}
use Rattle.paxos_base.specs.Members.{only_member}
use Rattle.term_core.specs.Term.{candidacy}
use Rattle.replica_core.proofs.LeadLemmas.{campaigns, own-prefix}
use Rattle.replica_core.proofs.SteadyLemmas.{on_ok_so}
use Rattle.replica_core.proofs.parts.Core.campaign.Goals as goal

pub returns-clause-makes : goal.returns-clause-makes
returns-clause-makes c =
    on_ok_so c.send_prepare.result _ _
    (λ goes. campaigns c.args.self.now c.args.draft.now c.send_prepare.new.self c.of-ballot.result c.prefix-first.result c.in_ok-copy_of.field-0 c.campaign.new.self
    c.requires.idle.stands c.requires.idle.learnt c.requires.idle.call
    (c.prefix-first.ensures ∙ own-prefix c.args.self.now c.requires.whole)
    (c.in_ok-copy_of.ensures ∙ c.votes_from.ensures.votes)
    (c.campaign.ensures ∙ ap (candidacy c.args.self.now.members c.of-ballot.result c.prefix-first.result (only_member c.args.self.now.me)) c.new.ensures.items)
    (c.of-ballot.ensures.number ∙ ap (λ tried. 8 * (tried + 1) + c.args.self.now.me) c.max.ensures)
    goes)
    c.send_prepare.ensures.goes
