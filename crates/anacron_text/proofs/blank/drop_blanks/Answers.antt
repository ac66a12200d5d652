use Rattle.anacron_text.proofs.SpacedLemmas.{boundary_at_spaced_end, spaced_drops, front_of_front}
use Rattle.anacron_text.proofs.blank.drop_blanks.Goals as goal

pub split_at-requires : goal.split_at-requires
split_at-requires c = boundary_at_spaced_end c.args.text.now c.end_of_marks.result c.end_of_marks.ensures.blank

pub returns-clause-drops : goal.returns-clause-drops
returns-clause-drops c =
    rw c.split_at.ensures.front
    (spaced_drops c.args.text.now c.end_of_marks.result c.end_of_marks.ensures.blank c.end_of_marks.ensures.mark)

pub returns-clause-front : goal.returns-clause-front
returns-clause-front c =
    rw c.split_at.ensures.front (front_of_front c.args.text.now c.end_of_marks.result c.end_of_marks.ensures.blank)
