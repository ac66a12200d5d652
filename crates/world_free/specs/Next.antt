-- What a replica does in its next turn, by what its thread keeps.
use Rattle.std.specs.Prelude.{ℕ, ◌&&◌, not, ℤ, if◌then◌else◌}
use Rattle.zone_minutes.specs.declared.minute.Window.{Window}
use Rattle.term_core.specs.Term.{is_leader}
use Rattle.term_core.specs.declared.term.Term.{Term}
use Rattle.history.specs.declared.turn.Cause.{Cause}
use Rattle.history.specs.declared.turn.Cause.TheVariants.{Campaign, Tick}
use Rattle.script_semantics.specs.Free.{is_time_to_stand}
use Rattle.script_semantics.specs.Round.{clock_reading}

-- without an answer or a letter, by how far its clock is ahead and by its term
abbrev pub idle_cause_by : Window → (at skew : ℤ) → (who taken : ℕ) → Term → Cause
idle_cause_by window at skew who taken term =
    if is_time_to_stand who taken && not (is_leader term) then Campaign else Tick (clock_reading window at skew)
