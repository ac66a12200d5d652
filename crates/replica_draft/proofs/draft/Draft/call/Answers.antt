use Rattle.replica_draft.proofs.LeadLemmas.{drafted-call}
use Rattle.replica_draft.proofs.draft.Draft.call.Goals as goal

pub returns-clause-goes : goal.returns-clause-goes
returns-clause-goes c kept = drafted-call kept c.args.self.now c.args.row c.requires
