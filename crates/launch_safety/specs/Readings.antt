-- What the clocks read in some turns.
use Rattle.std.specs.Prelude.{⊤, List, Some, ℤ, ◌≤ℤ◌, All}
use Rattle.history.specs.Book.{Row}
use Rattle.history.specs.declared.turn.Cause.{Cause}
use Rattle.history.specs.declared.turn.Cause.TheVariants.{Tick}
use Rattle.history.specs.declared.turn.Turn.{Turn}
use Rattle.history.specs.declared.turn.Turn.TheVariants.{Did, Stopped}

-- the clock that ticks, where one does, reads the instant or an earlier one
abbrev pub ReadsBy : (at : ℤ) → Cause → Type 0
ReadsBy at (Tick now) = now.0 ≤ℤ at
ReadsBy at cause = ⊤

-- the same of the clock of a turn, also of one within which the replica stopped
abbrev pub IsTurnBy : (at : ℤ) → Turn → Type 0
IsTurnBy at (Did who cause made) = ReadsBy at cause
IsTurnBy at (Stopped who (Some cause) kept) = ReadsBy at cause
IsTurnBy at turn = ⊤

-- no clock reading of the turns is later than the instant
abbrev pub AreTurnsBy : (at : ℤ) → List Row → Type 0
AreTurnsBy at rows = All (λ row. IsTurnBy at row.turn) rows
