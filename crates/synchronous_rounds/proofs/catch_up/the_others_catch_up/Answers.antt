use Rattle.synchronous_rounds.proofs.AskLemmas.{asked_next}
use Rattle.synchronous_rounds.proofs.IdleLemmas.{all_caught_up, five_idle}
use Rattle.synchronous_rounds.proofs.LearnLemmas.{learned_next}
use Rattle.synchronous_rounds.proofs.TellLemmas.{told_next}
use Rattle.synchronous_rounds.proofs.catch_up.the_others_catch_up.Goals as goal

pub returns-clause-asked : goal.returns-clause-asked
returns-clause-asked c = asked_next

pub returns-clause-told : goal.returns-clause-told
returns-clause-told c = told_next

pub returns-clause-learned : goal.returns-clause-learned
returns-clause-learned c = learned_next

pub returns-clause-caught_up : goal.returns-clause-caught_up
returns-clause-caught_up c = all_caught_up

pub returns-clause-idle : goal.returns-clause-idle
returns-clause-idle c = five_idle
