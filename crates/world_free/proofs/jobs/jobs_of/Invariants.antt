use Rattle.world_free.proofs.JobLemmas.{Handing}
use Rattle.world_free.proofs.jobs.jobs_of.Given as goal

abbrev pub invariant-seats : goal.invariant-seats
invariant-seats g l = Handing l.fn.nodes.items l.fn.mails.items l.yielded l.jobs.items l.nodes.items l.mails.items
