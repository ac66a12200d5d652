use Rattle.std.proofs.Common.{length, ap, arith}
use Rattle.crontab_text.specs.Blanks.{IsBlank}
use Rattle.anacron_text.proofs.SpacedLemmas.{lacks_to_end}
use Rattle.anacron_text.proofs.blank.first_blank.Goals as goal

pub returns-clause-none : goal.returns-clause-none
returns-clause-none c =
    let same = ap length c.as_bytes-bytes.ensures.value in
    let past = c.loop-index-test.false in
    lacks_to_end IsBlank c.args.text.now c.loop-index.index (omega arith) c.loop-index.invariant
