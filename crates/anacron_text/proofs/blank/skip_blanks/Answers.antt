use Rattle.anacron_text.proofs.SpacedLemmas.{boundary_at_spaced_mark, spaced_skip, spaced_skip_all, stands_from, stands_at_end}
use Rattle.anacron_text.proofs.blank.skip_blanks.Goals as goal

pub split_at-requires : goal.split_at-requires
split_at-requires c = boundary_at_spaced_mark c.args.text.now c.in-Some.index c.utf8.text c.in-Some.ensures.found

pub returns-in-Some-clause-skips : goal.returns-in-Some-clause-skips
returns-in-Some-clause-skips c =
    rw c.split_at.ensures.back (spaced_skip c.args.text.now c.in-Some.index c.in-Some.ensures.found)

pub returns-in-Some-clause-stands : goal.returns-in-Some-clause-stands
returns-in-Some-clause-stands c =
    rw c.split_at.ensures.back (stands_from c.args.text.now c.in-Some.index c.in-Some.ensures.found)

pub returns-in-None-clause-skips : goal.returns-in-None-clause-skips
returns-in-None-clause-skips c = spaced_skip_all c.args.text.now c.in-None.ensures.none

pub returns-in-None-clause-stands : goal.returns-in-None-clause-stands
returns-in-None-clause-stands c = stands_at_end c.args.text.now
