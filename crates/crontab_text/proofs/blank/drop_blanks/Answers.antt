use Rattle.crontab_text.proofs.BlankLemmas.{drops_from, boundary_at_end}
use Rattle.crontab_text.proofs.blank.drop_blanks.Goals as goal

pub split_at-requires : goal.split_at-requires
split_at-requires c = boundary_at_end c.args.text.now c.end_of_marks.result c.end_of_marks.ensures.blank

pub returns : goal.returns
returns c =
    rw c.split_at.ensures.front
    (drops_from c.args.text.now c.end_of_marks.result c.end_of_marks.ensures.blank c.end_of_marks.ensures.mark)
