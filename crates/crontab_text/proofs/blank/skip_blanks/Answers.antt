use Rattle.crontab_text.proofs.BlankLemmas.{boundary_at_mark, skips_to_mark, skips_all}
use Rattle.crontab_text.proofs.blank.skip_blanks.Goals as goal

pub split_at-requires : goal.split_at-requires
split_at-requires c = boundary_at_mark c.args.text.now c.in-Some.index c.utf8.text c.in-Some.ensures.found

pub returns-in-Some : goal.returns-in-Some
returns-in-Some c = rw c.split_at.ensures.back (skips_to_mark c.args.text.now c.in-Some.index c.in-Some.ensures.found)

pub returns-in-None : goal.returns-in-None
returns-in-None c = skips_all c.args.text.now c.in-None.ensures.none
