use Rattle.settling.proofs.DrainIdleLemmas.{quiet_of, rest_of}
use Rattle.settling.proofs.drain.quiet_is_idle_and_caught_up.Goals as goal

pub returns-clause-quiet : goal.returns-clause-quiet
returns-clause-quiet c = quiet_of

pub returns-clause-rest : goal.returns-clause-rest
returns-clause-rest c = rest_of

pub returns-clause-caught_up : goal.returns-clause-caught_up
returns-clause-caught_up c = λ members table who at situation quiet. quiet.caught_up
