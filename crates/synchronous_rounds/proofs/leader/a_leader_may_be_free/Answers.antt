use Rattle.synchronous_rounds.proofs.SomeCluster.{some_answer, some_answered, some_at_tick, some_leads_on}
use Rattle.synchronous_rounds.proofs.leader.a_leader_may_be_free.Goals as goal

pub returns-clause-alone : goal.returns-clause-alone
returns-clause-alone c = some_answered

pub returns-clause-answer : goal.returns-clause-answer
returns-clause-answer c = some_answer

pub returns-clause-on : goal.returns-clause-on
returns-clause-on c = some_leads_on

pub returns-clause-tick : goal.returns-clause-tick
returns-clause-tick c = some_at_tick
