use Rattle.crontab_text.specs.Blanks.{IsBlank}
use Rattle.crontab_text.proofs.ListLemmas.{cut_at_index}
use Rattle.crontab_text.proofs.blank.cut_at_blank.Goals as goal

pub returns-in-Some : goal.returns-in-Some
returns-in-Some c =
    rw (c.split_at.ensures.front, c.split_at.ensures.back)
    (cut_at_index IsBlank c.args.text.now c.in-Some.index c.in-Some.ensures.found)
