use Rattle.anacron_text.proofs.SpacedLemmas.{boundary_at_first_blank, spaced_cut, spaced_cut_end, stands_from_blank, stands_at_end}
use Rattle.anacron_text.proofs.blank.cut_at_blank.Goals as goal

pub split_at-requires : goal.split_at-requires
split_at-requires c = boundary_at_first_blank c.args.text.now c.in-Some.index c.in-Some.ensures.found

pub returns-in-Some-clause-cut : goal.returns-in-Some-clause-cut
returns-in-Some-clause-cut c =
    rw (c.split_at.ensures.front, c.split_at.ensures.back)
    (spaced_cut c.args.text.now c.in-Some.index c.in-Some.ensures.found)

pub returns-in-Some-clause-stands : goal.returns-in-Some-clause-stands
returns-in-Some-clause-stands c =
    rw c.split_at.ensures.back (stands_from_blank c.args.text.now c.in-Some.index c.in-Some.ensures.found)

pub returns-in-None-clause-cut : goal.returns-in-None-clause-cut
returns-in-None-clause-cut c = spaced_cut_end c.args.text.now c.in-None.ensures.none

pub returns-in-None-clause-stands : goal.returns-in-None-clause-stands
returns-in-None-clause-stands c = stands_at_end c.args.text.now
