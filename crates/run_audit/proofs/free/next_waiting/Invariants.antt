use Rattle.std.proofs.Common.{◌<◌, ℕ}
use Rattle.run_audit.specs.Freely.{IsWaiting}
use Rattle.run_audit.proofs.free.next_waiting.Given as goal

abbrev pub invariant-members : goal.invariant-members
invariant-members l = (who : ℕ) → who < l.who → IsWaiting l.turns l.replay l.list who → ⊥
