use Rattle.cron_serve.proofs.ServeLemmas.{run_ended}
use Rattle.cron_serve.proofs.answer.report.Goals as goal

pub returns : goal.returns
returns g c =
    let (text, is, writes) = c.write_texts-written.ensures in
    let end = c.written_end.ensures in
    (text, is, run_ended _ _ c.write_texts-written.result _ _ c.written_end.result _ end.status end.book end.nodes end.refusal writes)
