use Rattle.due_set.proofs.OpenLemmas.{opening_has_come, opening_is_on_time, opens_on_one_date}
use Rattle.due_set.proofs.sound.a_job_opens_on_its_date.Goals as goal

pub returns-clause-come : goal.returns-clause-come
returns-clause-come c = opening_has_come

pub returns-clause-on_time : goal.returns-clause-on_time
returns-clause-on_time c = opening_is_on_time

pub returns-clause-one : goal.returns-clause-one
returns-clause-one c = opens_on_one_date
