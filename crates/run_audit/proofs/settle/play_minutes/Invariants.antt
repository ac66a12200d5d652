use Rattle.std.specs.Prelude.{unsigned_abs, ◌-ℤ◌}
use Rattle.run_audit.proofs.LoopLemmas.{HasWalkedTo}
use Rattle.run_audit.proofs.settle.play_minutes.Given as goal

abbrev pub invariant-minutes : goal.invariant-minutes
invariant-minutes l = HasWalkedTo l.table l.who l.fn.at.0 l.above.0 l.to.0 l.fn.replay l.replay l.fn.rest l.rest

abbrev pub decreases-minutes : goal.decreases-minutes
decreases-minutes l = unsigned_abs (l.table.window.until.0 -ℤ l.above.0)
