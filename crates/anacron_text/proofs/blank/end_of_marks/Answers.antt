use Rattle.std.proofs.Common.{length, ap, arith}
use Rattle.anacron_text.proofs.SpacedLemmas.{spaced-length, blanks_at_end}
use Rattle.anacron_text.proofs.blank.end_of_marks.Goals as goal

pub loop-end-init : goal.loop-end-init
loop-end-init c = rw c.as_bytes-bytes.ensures.value (blanks_at_end c.args.text.now)

pub is_blank_at-requires : goal.is_blank_at-requires
is_blank_at-requires c =
    let size = spaced-length c.args.text.now in
    let same = ap length c.as_bytes-bytes.ensures.value in
    let within = c.loop-end.invariant.within in
    let some = c.loop-end-test.true in
    omega arith
