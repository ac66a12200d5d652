use Rattle.turn_tests.proofs.JobLemmas.{lent_jobs}
use Rattle.turn_tests.proofs.rota_turns.shifts_of.Goals as goal

pub close-requires-clause-jobs : goal.close-requires-clause-jobs
close-requires-clause-jobs g c =
    let jobs = c.in_ok-jobs.jobs in
    let run = c.run_all.ensures in
    lent_jobs c.in_ok-book.book jobs.len jobs.items c.as_mut_slice.result.now c.run_all.new.jobs c.as_mut_slice.ensures.value run.count jobs.ok.0 run.jobs
