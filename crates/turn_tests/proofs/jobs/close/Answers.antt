use Rattle.turn_tests.proofs.JobLemmas.{seats_fit}
use Rattle.turn_tests.proofs.jobs.close.Goals as goal

pub close-requires : goal.close-requires
close-requires g c = seats_fit c.args.book c.args.jobs.items c.in_ok-seats.seats.items c.in_ok-seats.ensures c.requires.count c.requires.jobs
