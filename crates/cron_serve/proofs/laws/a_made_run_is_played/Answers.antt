use Rattle.cron_serve.proofs.MadeEndLemmas.{launched_at, played_at, summary_of, unread_at}
use Rattle.cron_serve.proofs.laws.a_made_run_is_played.Goals as goal

pub returns-clause-played : goal.returns-clause-played
returns-clause-played c = played_at

pub returns-clause-launched : goal.returns-clause-launched
returns-clause-launched c = launched_at

pub returns-clause-unread : goal.returns-clause-unread
returns-clause-unread c = unread_at

pub returns-clause-summary : goal.returns-clause-summary
returns-clause-summary c =
    λ seed source source' sink sink' end ends zero. summary_of seed source source' end.book end.nodes.items sink sink' (ends.text zero)

pub returns-clause-done : goal.returns-clause-done
returns-clause-done c = λ seed source source' sink sink' end completes quiet. completes.made (λ (none : ⊥). none) quiet
