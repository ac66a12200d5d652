use Rattle.synchronous_rounds.proofs.PromiseLemmas.{third_round}
use Rattle.synchronous_rounds.proofs.WinLemmas.{second_wins}
use Rattle.synchronous_rounds.proofs.election.a_second_campaign_wins.Goals as goal

pub returns-clause-promised : goal.returns-clause-promised
returns-clause-promised c = third_round

pub returns-clause-wins : goal.returns-clause-wins
returns-clause-wins c = second_wins
