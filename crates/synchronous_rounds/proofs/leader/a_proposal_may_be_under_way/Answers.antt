use Rattle.synchronous_rounds.proofs.SomeCluster.{some_accepted, some_asked}
use Rattle.synchronous_rounds.proofs.leader.a_proposal_may_be_under_way.Goals as goal

pub returns-clause-asked : goal.returns-clause-asked
returns-clause-asked c = some_asked

pub returns-clause-accepted : goal.returns-clause-accepted
returns-clause-accepted c = some_accepted
