use Rattle.run_outcome.proofs.WholeDates.{all_unscripted, date_unscripted, due_unscripted, other_unscripted}
use Rattle.run_outcome.proofs.dates.a_walk_without_a_script_launches_each_due_instant.Goals as goal

pub returns-clause-each : goal.returns-clause-each
returns-clause-each c = due_unscripted

pub returns-clause-each_date : goal.returns-clause-each_date
returns-clause-each_date c = date_unscripted

pub returns-clause-no_other : goal.returns-clause-no_other
returns-clause-no_other c = other_unscripted

pub returns-clause-all : goal.returns-clause-all
returns-clause-all c = all_unscripted
