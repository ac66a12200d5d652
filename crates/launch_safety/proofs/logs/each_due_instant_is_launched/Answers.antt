use Rattle.launch_safety.proofs.FitLemmas.{launched_date, launched_due, launched_each, launched_wanted}
use Rattle.launch_safety.proofs.logs.each_due_instant_is_launched.Goals as goal

pub returns-clause-each : goal.returns-clause-each
returns-clause-each c = launched_each

pub returns-clause-each_date : goal.returns-clause-each_date
returns-clause-each_date c = launched_date

pub returns-clause-no_other : goal.returns-clause-no_other
returns-clause-no_other c = launched_wanted

pub returns-clause-due : goal.returns-clause-due
returns-clause-due c = launched_due
