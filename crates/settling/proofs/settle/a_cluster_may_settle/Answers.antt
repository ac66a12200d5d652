use Rattle.settling.proofs.SomeDrain.{some_campaign}
use Rattle.settling.proofs.SomeSettled.{some_one, some_rests, some_soon}
use Rattle.settling.proofs.settle.a_cluster_may_settle.Goals as goal

pub returns-clause-one : goal.returns-clause-one
returns-clause-one c = some_one

pub returns-clause-more : goal.returns-clause-more
returns-clause-more c = some_campaign

pub returns-clause-soon : goal.returns-clause-soon
returns-clause-soon c = some_soon

pub returns-clause-rests : goal.returns-clause-rests
returns-clause-rests c = some_rests
