use Rattle.std.proofs.Common.{◌<◌, ℕ, ◌-◌, ℤ}
use Rattle.launch_machine.specs.Clerk.{TakesStart}
use Rattle.launch_machine.proofs.choice.first_start.Given as goal

abbrev pub invariant-idle : goal.invariant-idle
invariant-idle l = (before : ℕ) (other : ℤ) → before < l.from → TakesStart l.table l.rows before other l.now.0 → ⊥

abbrev pub decreases-idle : goal.decreases-idle
decreases-idle l = l.jobs - l.from
