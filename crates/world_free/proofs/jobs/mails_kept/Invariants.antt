use Rattle.world_free.proofs.JobLemmas.{Keeping}
use Rattle.world_free.proofs.jobs.mails_kept.Given as goal

abbrev pub invariant-mails : goal.invariant-mails
invariant-mails l = Keeping l.letters l.yielded l.kept.items
