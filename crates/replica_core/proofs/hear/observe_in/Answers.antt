use Rattle.replica_draft.specs.Draft.{drafted}
use Rattle.replica_core.proofs.HearLemmas.{observe-none}
use Rattle.replica_core.proofs.hear.observe_in.Goals as goal

pub returns-in-None-clause-goes : goal.returns-in-None-clause-goes
returns-in-None-clause-goes c kept = rw (← c.in-None.ensures) (observe-none (drafted kept c.args.draft.now))
