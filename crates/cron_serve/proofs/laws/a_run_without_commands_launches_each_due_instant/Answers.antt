use Rattle.cron_serve.proofs.WholeLemmas.{all_launched, each_called, each_date_called, none_other}
use Rattle.cron_serve.proofs.laws.a_run_without_commands_launches_each_due_instant.Goals as goal

pub returns-clause-each : goal.returns-clause-each
returns-clause-each c = λ bytes table book nodes run job at none. each_called bytes table book nodes run none job at

pub returns-clause-each_date : goal.returns-clause-each_date
returns-clause-each_date c = λ bytes table book nodes run job now date none plain. each_date_called bytes table book nodes run none plain job now date

pub returns-clause-no_other : goal.returns-clause-no_other
returns-clause-no_other c = λ bytes table book nodes run row none plain. none_other bytes table book nodes run none plain row

pub returns-clause-all : goal.returns-clause-all
returns-clause-all c = λ bytes table book nodes run none plain. all_launched bytes table book nodes run none plain
