use Rattle.std.proofs.Common.{◌<◌, ℕ, ◌-◌, ℤ}
use Rattle.launch_machine.specs.Intent.{MayCall}
use Rattle.launch_machine.proofs.choice.first_call.Given as goal

abbrev pub invariant-open : goal.invariant-open
invariant-open l = (before : ℕ) (other : ℤ) → before < l.from → MayCall l.table l.rows before other l.now.0 → ⊥

abbrev pub decreases-open : goal.decreases-open
decreases-open l = l.jobs - l.from
