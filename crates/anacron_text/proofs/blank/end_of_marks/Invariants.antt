use Rattle.crontab_text.specs.Blanks.{AreBlanksFrom}
use Rattle.anacron_text.specs.Spaced.{spaced}
use Rattle.anacron_text.proofs.blank.end_of_marks.Given as goal

abbrev pub invariant-loop-end : goal.invariant-loop-end
invariant-loop-end l = AreBlanksFrom (spaced l.text) l.end

abbrev pub decreases-loop-end : goal.decreases-loop-end
decreases-loop-end l = l.end
