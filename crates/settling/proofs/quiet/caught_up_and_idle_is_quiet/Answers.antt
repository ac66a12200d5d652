use Rattle.settling.proofs.QuietEndLemmas.{idle_ends, idle_quiet, leads_highest}
use Rattle.settling.proofs.quiet.caught_up_and_idle_is_quiet.Goals as goal

pub returns-clause-quiet : goal.returns-clause-quiet
returns-clause-quiet c = idle_quiet

pub returns-clause-highest : goal.returns-clause-highest
returns-clause-highest c = leads_highest

pub returns-clause-ends : goal.returns-clause-ends
returns-clause-ends c = idle_ends
