use Rattle.std.proofs.Common.{rules}
use Rattle.report_text.proofs.WritingLemmas.{writes_no_memory, writes_whole}
use Rattle.journal_text.proofs.journal.write_group.Goals as goal

pub returns-in_err-put_turns : goal.returns-in_err-put_turns
returns-in_err-put_turns g c = writes_no_memory _ _ _ c.from_residual.ensures.1

pub returns : goal.returns
returns g c =
    let wrote = c.in_ok-write_all.ensures in
    writes_whole _ _ _ c.as_bytes.result.now _ (search rules) wrote.bytes wrote.prefix wrote.cause.later wrote.by_room
