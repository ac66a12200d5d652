use Rattle.settling.proofs.QuietLemmas.{quiet_ends, rest_is_quiet}
use Rattle.settling.proofs.alone.one_idle_is_quiet.Goals as goal

pub returns-clause-quiet : goal.returns-clause-quiet
returns-clause-quiet c = rest_is_quiet

pub returns-clause-ends : goal.returns-clause-ends
returns-clause-ends c = quiet_ends
