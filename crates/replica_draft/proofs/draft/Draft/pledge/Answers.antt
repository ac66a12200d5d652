use Rattle.replica_draft.proofs.DraftLemmas.{drafted-pledge}
use Rattle.replica_draft.proofs.draft.Draft.pledge.Goals as goal

pub returns-clause-goes : goal.returns-clause-goes
returns-clause-goes c kept = drafted-pledge kept c.args.self.now c.args.ballot c.requires
