use Rattle.launch_safety.proofs.Whole.{log_takes, vote_works}
use Rattle.launch_safety.proofs.histories.each_entry_takes_effect.Goals as goal

pub returns-clause-log : goal.returns-clause-log
returns-clause-log c = log_takes

pub returns-clause-vote : goal.returns-clause-vote
returns-clause-vote c = vote_works
