use Rattle.settling.proofs.SettleIdleLemmas.{rested_leads, rested_quiet, rested_rests}
use Rattle.settling.proofs.settle.one_idle_is_quiet_soon.Goals as goal

pub returns-clause-now : goal.returns-clause-now
returns-clause-now c = λ members table who at situation leads rest. (leads, rest)

pub returns-clause-on : goal.returns-clause-on
returns-clause-on c = λ rounds members table who at book rows situation after rests goes. (book, rows, situation, rests, goes)

pub returns-clause-leads : goal.returns-clause-leads
returns-clause-leads c = rested_leads

pub returns-clause-rests : goal.returns-clause-rests
returns-clause-rests c = rested_rests

pub returns-clause-quiet : goal.returns-clause-quiet
returns-clause-quiet c = rested_quiet
