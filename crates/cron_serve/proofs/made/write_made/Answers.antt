use Rattle.generated_run.specs.Made.{made_text}
use Rattle.cron_serve.proofs.ServeLemmas.{ends_summary}
use Rattle.cron_serve.proofs.made.write_made.Goals as goal

pub returns-clause-end : goal.returns-clause-end
returns-clause-end g c =
    let (text, summary, end) = c.summarize.ensures in
    ends_summary c.args.seed (made_text c.args.seed) _ _ c.in_ok-played.played.table c.in_ok-played.played.book c.in_ok-played.played.nodes.items c.summarize.result text
    c.in_ok-played.ensures.run summary end
