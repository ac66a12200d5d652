use Rattle.launch_safety.proofs.FitLemmas.{end_held, end_kind}
use Rattle.launch_safety.proofs.logs.an_end_says_what_is_held.Goals as goal

pub returns-clause-held : goal.returns-clause-held
returns-clause-held c = end_held

pub returns-clause-kind : goal.returns-clause-kind
returns-clause-kind c = end_kind
