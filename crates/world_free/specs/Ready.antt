-- The row of a step in a book, and that of a stop within one.
use Rattle.std.specs.Prelude.{ℕ, Option, Some, is_some}
use Rattle.paxos_base.specs.declared.durable.Delta.{Delta}
use Rattle.history.specs.declared.turn.CallRow.{CallRow}
use Rattle.history.specs.declared.turn.Cause.{Cause}
use Rattle.history.specs.declared.turn.Turn.TheVariants.{Did, Stopped}
use Rattle.world_law.specs.Replicas.{change_alone}
use Rattle.world_law.specs.declared.row.BookRow.{BookRow}
use Rattle.world_steps.specs.declared.steps.Taken.{Taken}

-- the step's turn, with the call that was made for it, and what came of the step
abbrev pub row_of_step : ℕ → Taken → Option CallRow → BookRow
row_of_step who taken made = record { turn = Did who taken.cause made; out = taken.out }

-- the turn of a stop within the step for this cause, with the change that was kept, where it was
abbrev pub row_of_stop : ℕ → Cause → Option Delta → BookRow
row_of_stop who cause change = record { turn = Stopped who (Some cause) (is_some change); out = change_alone change }
