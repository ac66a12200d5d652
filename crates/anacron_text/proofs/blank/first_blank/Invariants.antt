use Rattle.std.proofs.Common.{ℕ, ◌<◌, get_or}
use Rattle.crontab_text.specs.Blanks.{IsBlank}
use Rattle.anacron_text.specs.Spaced.{spaced}
use Rattle.anacron_text.proofs.blank.first_blank.Given as goal

abbrev pub invariant-loop-index : goal.invariant-loop-index
invariant-loop-index l = (k : ℕ) → k < l.index → IsBlank (get_or (spaced l.text) k 0) → ⊥
