use Rattle.std.proofs.Common.{◌++◌}
use Rattle.report_text.proofs.WritingLemmas.{writes_exit, writes_on}
use Rattle.cron_serve.specs.Played.{played_journal}
use Rattle.cron_serve.specs.Watch.{watch_text}
use Rattle.cron_serve.proofs.answer.write_texts.Goals as goal

pub returns-in_err-write_book_report : goal.returns-in_err-write_book_report
returns-in_err-write_book_report g c =
    let (front, report, writes) = c.in_err-write_book_report.ensures in
    let played = c.args.played.now in
    (front, report, writes_exit _ _ _ _ front (watch_text played.seen.items ++ played_journal c.args.journal played) c.from_residual.ensures.1 writes)

pub returns : goal.returns
returns g c =
    let (front, report, writes) = c.in_ok-write_book_report.ensures in
    let played = c.args.played.now in
    (front, report, writes_on _ _ _ _ _ front (watch_text played.seen.items ++ played_journal c.args.journal played) writes c.write_rest.ensures)
