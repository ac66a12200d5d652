use Rattle.history.proofs.Leaves.{acts_leave, one_is_left, started_table, table_is_left, turn_leaves}
use Rattle.history.proofs.bounds.a_step_keeps_the_launch_table.Goals as goal

pub returns-clause-acts : goal.returns-clause-acts
returns-clause-acts c = acts_leave

pub returns-clause-turn : goal.returns-clause-turn
returns-clause-turn c = turn_leaves

pub returns-clause-some : goal.returns-clause-some
returns-clause-some c = table_is_left

pub returns-clause-one : goal.returns-clause-one
returns-clause-one c = one_is_left

pub returns-clause-start : goal.returns-clause-start
returns-clause-start c = started_table
