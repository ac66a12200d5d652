use Rattle.run_input.proofs.VerdictLemmas.{one_frame, one_taken}
use Rattle.cron_serve.proofs.VerdictLemmas.{one_input, suits_or_refused}
use Rattle.cron_serve.proofs.laws.an_input_has_one_verdict.Goals as goal

pub returns-clause-one_run : goal.returns-clause-one_run
returns-clause-one_run c = one_taken

pub returns-clause-one_frame : goal.returns-clause-one_frame
returns-clause-one_frame c = one_frame

pub returns-clause-one_refusal : goal.returns-clause-one_refusal
returns-clause-one_refusal c = one_input

pub returns-clause-not_both : goal.returns-clause-not_both
returns-clause-not_both c = suits_or_refused
