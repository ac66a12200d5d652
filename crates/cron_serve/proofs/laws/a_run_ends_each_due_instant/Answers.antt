use Rattle.cron_serve.proofs.WholeLemmas.{each_ended, each_within_grace, later}
use Rattle.cron_serve.proofs.laws.a_run_ends_each_due_instant.Goals as goal

pub returns-clause-ended : goal.returns-clause-ended
returns-clause-ended c = each_ended

pub returns-clause-later : goal.returns-clause-later
returns-clause-later c = later

pub returns-clause-all : goal.returns-clause-all
returns-clause-all c = each_within_grace
