use Rattle.replica_draft.proofs.DraftLemmas.{drafted-cast}
use Rattle.replica_draft.proofs.draft.Draft.cast.Goals as goal

pub returns-clause-goes : goal.returns-clause-goes
returns-clause-goes c kept = drafted-cast kept c.args.self.now c.args.vote c.requires
