use Rattle.std.proofs.Common.{length}
use Rattle.anacron_text.proofs.SpacedLemmas.{stands_within}
use Rattle.anacron_text.proofs.blank.take_word.Goals as goal

pub returns-clause-stands : goal.returns-clause-stands
returns-clause-stands c =
    stands_within c.args.text.now c.skip_blanks.result.now c.cut_at_blank.result.1.now (length c.cut_at_blank.result.1.now)
    c.skip_blanks.ensures.stands c.cut_at_blank.ensures.stands
