use Rattle.settling.proofs.QuietEndLemmas.{quiet_calls, quiet_learned, quiet_starts, quiet_tables}
use Rattle.settling.proofs.quiet.quiet_says_it_of_the_whole_log.Goals as goal

pub returns-clause-learned : goal.returns-clause-learned
returns-clause-learned c = quiet_learned

pub returns-clause-calls : goal.returns-clause-calls
returns-clause-calls c = quiet_calls

pub returns-clause-starts : goal.returns-clause-starts
returns-clause-starts c = quiet_starts

pub returns-clause-versions : goal.returns-clause-versions
returns-clause-versions c = quiet_tables
