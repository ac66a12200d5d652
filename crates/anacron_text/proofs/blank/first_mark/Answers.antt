use Rattle.std.proofs.Common.{length, ap, arith}
use Rattle.crontab_text.specs.Blanks.{IsMark}
use Rattle.anacron_text.proofs.SpacedLemmas.{lacks_to_end, first_mark_at}
use Rattle.anacron_text.proofs.blank.first_mark.Goals as goal

pub returns-then-not-is_blank_at-clause-found : goal.returns-then-not-is_blank_at-clause-found
returns-then-not-is_blank_at-clause-found c =
    let same = ap length c.as_bytes-bytes.ensures.value in
    let inside = c.loop-index-test.true in
    let read = rw c.as_bytes-bytes.ensures.value at c.is_blank_at.ensures in
    first_mark_at c.args.text.now c.loop-index.index (omega arith) (λ blank. let yes = read.1 blank in cc) c.loop-index.invariant

pub returns-clause-none : goal.returns-clause-none
returns-clause-none c =
    let same = ap length c.as_bytes-bytes.ensures.value in
    let past = c.loop-index-test.false in
    lacks_to_end IsMark c.args.text.now c.loop-index.index (omega arith) c.loop-index.invariant
