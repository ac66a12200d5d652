use Rattle.synchronous_rounds.proofs.AnswerLemmas.{first_answered}
use Rattle.synchronous_rounds.proofs.DecidedLemmas.{second_decides}
use Rattle.synchronous_rounds.proofs.election.a_campaign_is_answered.Goals as goal

pub returns-clause-answered : goal.returns-clause-answered
returns-clause-answered c = first_answered

pub returns-clause-decided : goal.returns-clause-decided
returns-clause-decided c = second_decides
