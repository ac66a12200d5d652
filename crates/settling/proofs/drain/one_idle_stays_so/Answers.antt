use Rattle.settling.proofs.DrainIdleLemmas.{rests_alone, rests_quietly, rests_still}
use Rattle.settling.proofs.drain.one_idle_stays_so.Goals as goal

pub returns-clause-now : goal.returns-clause-now
returns-clause-now c = λ members table who at situation alone rest. (alone, rest)

pub returns-clause-on : goal.returns-clause-on
returns-clause-on c = λ rounds members table who at book rows situation after rests goes. (book, rows, situation, rests, goes)

pub returns-clause-alone : goal.returns-clause-alone
returns-clause-alone c = rests_alone

pub returns-clause-rests : goal.returns-clause-rests
returns-clause-rests c = rests_still

pub returns-clause-quiet : goal.returns-clause-quiet
returns-clause-quiet c = rests_quietly
