use Rattle.run_audit.proofs.ProgressLemmas.{HasListed}
use Rattle.run_audit.proofs.free.first_progress.Given as goal

abbrev pub invariant-members : goal.invariant-members
invariant-members l = HasListed l.replay l.who l.list.items
