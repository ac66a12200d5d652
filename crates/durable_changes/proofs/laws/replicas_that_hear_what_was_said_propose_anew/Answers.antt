use Rattle.durable_changes.proofs.Honest.{proposes_anew}
use Rattle.durable_changes.proofs.laws.replicas_that_hear_what_was_said_propose_anew.Goals as goal

pub returns : goal.returns
returns c = proposes_anew
