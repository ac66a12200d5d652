use Rattle.replica_core.proofs.LeadLemmas.{bound-last, bound-none}
use Rattle.replica_core.proofs.lead.is_bound.Goals as goal

pub returns-in-Some : goal.returns-in-Some
returns-in-Some c = bound-last c.args.slot c.args.best.now c.in-Some.vote.now c.requires c.in-Some.ensures.value

pub returns-in-None : goal.returns-in-None
returns-in-None c = bound-none c.args.slot c.args.best.now c.in-None.ensures.value
