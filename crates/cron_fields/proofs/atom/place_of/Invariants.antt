use Rattle.std.proofs.Common.{ℕ, ◌<◌}
use Rattle.cron_fields.specs.Base.{IsPlaceInTable}
use Rattle.cron_fields.proofs.atom.place_of.Given as goal

abbrev pub invariant-loop-index : goal.invariant-loop-index
invariant-loop-index l = (k : ℕ) → k < l.index → IsPlaceInTable l.names l.text k → ⊥
