use Rattle.std.proofs.Common.{rules}
use Rattle.report_text.proofs.WritingLemmas.{writes_whole}
use Rattle.cron_serve.proofs.watch.write_watch.Goals as goal

pub returns : goal.returns
returns g c =
    let wrote = c.in_ok-write_all.ensures in
    writes_whole _ _ _ c.as_bytes.result.now _ (search rules) wrote.bytes wrote.prefix wrote.cause.later wrote.by_room
