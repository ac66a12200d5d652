use Rattle.std.proofs.Common.{rules}
use Rattle.due_list.proofs.WriteLemmas.{writes_whole, writes_front}
use Rattle.due_list.proofs.write.write_text.Goals as goal

pub returns-in_err-write_all : goal.returns-in_err-write_all
returns-in_err-write_all g c =
    let wrote = c.in_err-write_all.ensures in
    writes_front _ _ c.from_residual.result _ c.as_bytes.result.now c.args.text.now c.from_residual.ensures.1 (search rules) wrote.prefix wrote.cause wrote.by_room

pub returns : goal.returns
returns g c =
    let wrote = c.in_ok-write_all.ensures in
    writes_whole _ _ _ c.as_bytes.result.now c.args.text.now (search rules) wrote.bytes wrote.cause.later wrote.by_room
