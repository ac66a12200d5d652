use Rattle.synchronous_rounds.proofs.IdleLemmas.{idle_round, idle_says, rested_idle}
use Rattle.synchronous_rounds.proofs.catch_up.an_idle_leader_stays_idle.Goals as goal

pub returns-clause-idle : goal.returns-clause-idle
returns-clause-idle c = idle_round

pub returns-clause-says : goal.returns-clause-says
returns-clause-says c = idle_says

pub returns-clause-rested : goal.returns-clause-rested
returns-clause-rested c = rested_idle
