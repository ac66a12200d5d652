use Rattle.replica_draft.proofs.LeadLemmas.{drafted-wait}
use Rattle.replica_draft.proofs.draft.Draft.wait.Goals as goal

pub returns-clause-goes : goal.returns-clause-goes
returns-clause-goes c kept = drafted-wait kept c.args.self.now c.wait_tick.new.self c.wait_tick.ensures.term
