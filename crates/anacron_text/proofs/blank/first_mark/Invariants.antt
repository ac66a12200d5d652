use Rattle.std.proofs.Common.{ℕ, ◌<◌, get_or}
use Rattle.crontab_text.specs.Blanks.{IsMark}
use Rattle.anacron_text.specs.Spaced.{spaced}
use Rattle.anacron_text.proofs.blank.first_mark.Given as goal

abbrev pub invariant-loop-index : goal.invariant-loop-index
invariant-loop-index l = (k : ℕ) → k < l.index → IsMark (get_or (spaced l.text) k 0) → ⊥
