use Rattle.synchronous_rounds.proofs.SomeIdle.{some_ahead_at_base, some_ahead_of_base}
use Rattle.synchronous_rounds.proofs.catch_up.an_idle_leader_may_be_ahead.Goals as goal

pub returns-clause-entries : goal.returns-clause-entries
returns-clause-entries c = some_ahead_of_base

pub returns-clause-table : goal.returns-clause-table
returns-clause-table c = some_ahead_at_base
