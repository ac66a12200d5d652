use Rattle.cron_serve.proofs.ServeLemmas.{serving_made}
use Rattle.cron_serve.proofs.serve.serve_text.Goals as goal

pub returns-in-Some-clause-end : goal.returns-in-Some-clause-end
returns-in-Some-clause-end g c =
    rw c.in-Some.ensures.some
    (serving_made _ _ _ _ _ _ (c.serve_made.ensures.ends _) (c.serve_made.ensures.complete _) c.serve_made.ensures.statuses)
