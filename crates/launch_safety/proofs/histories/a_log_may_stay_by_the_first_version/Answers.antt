use Rattle.launch_safety.proofs.Whole.{first_in_log, first_started, no_adoptions}
use Rattle.launch_safety.proofs.histories.a_log_may_stay_by_the_first_version.Goals as goal

pub returns-clause-none : goal.returns-clause-none
returns-clause-none c = no_adoptions

pub returns-clause-first : goal.returns-clause-first
returns-clause-first c = first_in_log

pub returns-clause-start : goal.returns-clause-start
returns-clause-start c = first_started
