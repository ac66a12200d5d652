use Rattle.settling.proofs.SomeAlone.{some_campaign, some_drain_round}
use Rattle.settling.proofs.SomeBusy.{some_answer}
use Rattle.settling.proofs.alone.one_may_lead_itself.Goals as goal

pub returns-clause-campaign : goal.returns-clause-campaign
returns-clause-campaign c = some_campaign

pub returns-clause-rest : goal.returns-clause-rest
returns-clause-rest c = some_drain_round

pub returns-clause-answer : goal.returns-clause-answer
returns-clause-answer c = some_answer
