use Rattle.replica_draft.proofs.LeadLemmas.{drafted-launch}
use Rattle.replica_draft.proofs.draft.Draft.propose.Goals as goal

pub returns-clause-goes : goal.returns-clause-goes
returns-clause-goes c kept = drafted-launch kept c.args.self.now c.propose.new.self c.args.me c.args.vote c.requires.change c.propose.ensures.term
