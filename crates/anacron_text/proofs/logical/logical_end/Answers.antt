use Rattle.anacron_text.proofs.LogicalLemmas.{reaches_first, reaches_next, reaches_end}
use Rattle.anacron_text.proofs.logical.logical_end.Goals as goal

pub loop-bytes-init : goal.loop-bytes-init
loop-bytes-init c =
    let first = rw c.as_bytes-bytes.ensures.value at c.line_end-end.ensures in
    reaches_first c.args.text.now c.line_end-end.result c.requires first

pub loop-bytes-preserved : goal.loop-bytes-preserved
loop-bytes-preserved c =
    let next = rw c.as_bytes-bytes.ensures.value at c.line_end-end-in-loop-bytes.ensures in
    let does = rw c.as_bytes-bytes.ensures.value at c.is_continued_at.ensures in
    reaches_next c.args.text.now c.loop-bytes.end c.line_end-end-in-loop-bytes.result c.loop-bytes.invariant (does.0 c.loop-bytes-test.true) next

pub returns : goal.returns
returns c =
    let does = rw c.as_bytes-bytes.ensures.value at c.is_continued_at.ensures in
    reaches_end c.args.text.now c.loop-bytes.end c.loop-bytes.invariant
    (λ is. let yes = does.1 is in let no = c.loop-bytes-test.false in cc)
