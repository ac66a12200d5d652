use Rattle.replica_core.proofs.LeadLemmas.{makes_proposal, own-prefix}
use Rattle.replica_core.proofs.SteadyLemmas.{on_ok_so}
use Rattle.replica_core.proofs.parts.Core.propose.Goals as goal

pub returns-clause-makes : goal.returns-clause-makes
returns-clause-makes c =
    rw (← own-prefix c.args.self.now c.requires.whole, ← c.prefix-slot.ensures, ← c.bound_by.ensures)
    (on_ok_so c.propose_vote.result _ _ (λ does. makes_proposal c.args.self.now c.args.draft.now c.propose_vote.new.draft _ c.requires.whole c.requires.idle.stands does) c.propose_vote.ensures.does)
