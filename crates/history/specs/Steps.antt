-- The turn of a step, by what a replica has of the step.
use Rattle.std.specs.Prelude.{ℕ, List, Option}
use Rattle.std.specs.List.{flat_map}
use Rattle.paxos_base.specs.declared.durable.Delta.{Delta}
use Rattle.step_spec.specs.Step.{Event}
use Rattle.step_spec.specs.declared.out.LearntRow.{LearntRow}
use Rattle.step_spec.specs.declared.out.OutLetter.{OutLetter}
use Rattle.history.specs.Book.{Row, vote_of_delta}
use Rattle.history.specs.declared.turn.CallRow.{CallRow}
use Rattle.history.specs.declared.turn.Cause.{Cause}
use Rattle.history.specs.declared.turn.Turn.TheVariants.{Did}

-- the turn of a step with these changes of what is kept, letters and learned entries, and perhaps a call
abbrev pub step_row : ℕ → Cause → Option CallRow → Event → List Delta → List OutLetter → List LearntRow → Row
step_row who cause made event deltas letters learnt =
    record { turn = Did who cause made; event = event; letters = letters; votes = flat_map vote_of_delta deltas; learnt = learnt }
