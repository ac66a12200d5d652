use Rattle.turn_tests.proofs.JobLemmas.{jobs_fit}
use Rattle.turn_tests.proofs.jobs.jobs_of.Goals as goal

pub returns-clause-jobs : goal.returns-clause-jobs
returns-clause-jobs g c = jobs_fit c.args.book.now c.in_ok-jobs.jobs.items c.args.seats.items c.in_ok-jobs.ensures c.requires
