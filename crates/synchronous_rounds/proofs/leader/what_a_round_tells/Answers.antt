use Rattle.synchronous_rounds.specs.Flights.{learned_by}
use Rattle.synchronous_rounds.proofs.NearLemmas.{begun_leads}
use Rattle.synchronous_rounds.proofs.leader.what_a_round_tells.Goals as goal

pub returns-clause-nearer : goal.returns-clause-nearer
returns-clause-nearer c = λ table best old new nearer. nearer.nearer

pub returns-clause-learned : goal.returns-clause-learned
returns-clause-learned c = λ proposal now advice cluster next lands.
    let on = begun_leads proposal.self.members proposal.self.me proposal.best (learned_by proposal) now advice cluster next lands.begins in
    (on.leading.learned, on.leading.launch)

pub returns-clause-proposed : goal.returns-clause-proposed
returns-clause-proposed c = λ members leader best at now advice cluster next it. (it.entry.entry, it.asked, it.uncalled)

pub returns-clause-called : goal.returns-clause-called
returns-clause-called c = λ members leader best at now advice cluster next it. (it.row, it.called, it.asked)

pub returns-clause-rested : goal.returns-clause-rested
returns-clause-rested c = λ members leader best at now advice cluster next it. (it.rests, it.free, it.uncalled)

pub returns-clause-told : goal.returns-clause-told
returns-clause-told c = λ members leader best at now advice cluster next who it below apart. it.told who below apart
