use Rattle.std.proofs.Common.{take, drop, sym}
use Rattle.std.proofs.lemmas.List.{take-append-drop, length-take-le}
use Rattle.crontab_text.proofs.PercentLemmas.{begins_with_text}
use Rattle.crontab_text.proofs.percent.take_text.Goals as goal

pub returns-clause-piece : goal.returns-clause-piece
returns-clause-piece c =
    let text = c.skip_escape-text.result.now in
    let end = c.text_end.result in
    let within = rw c.as_bytes.ensures.value at c.text_end.ensures.within in
    let lacks = rw c.as_bytes.ensures.value at c.text_end.ensures.lacks in
    let ends = rw c.as_bytes.ensures.value at c.text_end.ensures.end in
    rw (c.split_at.ensures.front, c.split_at.ensures.back)
    (begins_with_text c.args.command.now text (take end text) (drop end text) (sym (take-append-drop end text))
    c.skip_escape-text.ensures c.requires.text (rw (length-take-le end text within) c.text_end.ensures.some) lacks ends)
