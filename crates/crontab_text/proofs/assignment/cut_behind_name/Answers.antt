use Rattle.crontab_text.specs.Assignment.{IsNoNameByte}
use Rattle.crontab_text.proofs.ListLemmas.{cut_at_index}
use Rattle.crontab_text.proofs.AssignmentLemmas.{boundary_behind_name}
use Rattle.crontab_text.proofs.assignment.cut_behind_name.Goals as goal

pub split_at-requires : goal.split_at-requires
split_at-requires c = boundary_behind_name c.args.text.now c.in-Some.index c.utf8.text c.in-Some.ensures.found

pub returns-in-Some : goal.returns-in-Some
returns-in-Some c =
    rw (c.split_at.ensures.front, c.split_at.ensures.back)
    (cut_at_index IsNoNameByte c.args.text.now c.in-Some.index c.in-Some.ensures.found)
