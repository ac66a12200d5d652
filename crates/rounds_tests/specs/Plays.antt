-- Commands that a world takes one after another. Private functions alone cite it.
use Rattle.std.specs.Prelude.{◌≡◌, ℕ, List, [], ◌∷◌, ⊤, pos}
use Rattle.zone_minutes.specs.declared.minute.Window.{Window}
use Rattle.script_text.specs.declared.command.Command.{Command}
use Rattle.world_rounds.specs.Commands.{IsTaken}

-- the hour from 2024-03-31T00:00Z on
pub record IsHour (window : Window) : Type 0 where
  pub from : window.from.0 ≡ pos 28_530_720
  pub until : window.until.0 ≡ pos 28_530_780

-- the four hours from then on
pub record AreFourHours (window : Window) : Type 0 where
  pub from : window.from.0 ≡ pos 28_530_720
  pub until : window.until.0 ≡ pos 28_530_960

-- a world of so many replicas takes each of the commands
abbrev pub AreTaken : Window → ℕ → List Command → Type 0
AreTaken window members [] = ⊤
AreTaken window members (command ∷ commands) = IsTaken window members command × AreTaken window members commands
