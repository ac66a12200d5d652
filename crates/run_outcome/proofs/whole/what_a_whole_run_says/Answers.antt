use Rattle.run_outcome.proofs.SaidLemmas.{said_chosen, said_one, said_follow, said_once, said_backed, said_says, said_order, said_adopted, said_learned, said_effective, said_settled, said_ended, said_later, said_at_once, said_all}
use Rattle.run_outcome.proofs.whole.what_a_whole_run_says.Goals as goal

pub returns-clause-chosen : goal.returns-clause-chosen
returns-clause-chosen c = said_chosen

pub returns-clause-one : goal.returns-clause-one
returns-clause-one c = said_one

pub returns-clause-follow : goal.returns-clause-follow
returns-clause-follow c = said_follow

pub returns-clause-once : goal.returns-clause-once
returns-clause-once c = said_once

pub returns-clause-backed : goal.returns-clause-backed
returns-clause-backed c = said_backed

pub returns-clause-says : goal.returns-clause-says
returns-clause-says c = said_says

pub returns-clause-order : goal.returns-clause-order
returns-clause-order c = said_order

pub returns-clause-adopted : goal.returns-clause-adopted
returns-clause-adopted c = said_adopted

pub returns-clause-learned : goal.returns-clause-learned
returns-clause-learned c = said_learned

pub returns-clause-effective : goal.returns-clause-effective
returns-clause-effective c = said_effective

pub returns-clause-settled : goal.returns-clause-settled
returns-clause-settled c = said_settled

pub returns-clause-ended : goal.returns-clause-ended
returns-clause-ended c = said_ended

pub returns-clause-later : goal.returns-clause-later
returns-clause-later c = said_later

pub returns-clause-at_once : goal.returns-clause-at_once
returns-clause-at_once c = said_at_once

pub returns-clause-all : goal.returns-clause-all
returns-clause-all c = said_all
