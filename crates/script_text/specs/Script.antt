-- A script: commands in the order of their lines, and the limits of what they ask for together.
use Rattle.std.specs.Prelude.{◌≡◌, ℕ, ◌+◌, ◌≤◌, List, length, sum_by}
use Rattle.script_text.specs.declared.command.Command.{Command}
use Rattle.script_text.specs.declared.command.Command.TheVariants.{Round, Free}
use Rattle.script_text.specs.declared.limits.Limits.{Limits}

-- the rounds that a command asks for
abbrev pub rounds_of : Command → ℕ
rounds_of (Round at rounds) = rounds
rounds_of command = 0

-- the free turns that a command gives each replica
abbrev pub free_turns_of : Command → ℕ
free_turns_of (Free at turns) = turns
free_turns_of command = 0

-- the rounds that a script asks for
abbrev pub rounds_in : List Command → ℕ
rounds_in script = sum_by rounds_of script

-- the free turns that a script gives each replica
abbrev pub free_turns_in : List Command → ℕ
free_turns_in script = sum_by free_turns_of script

-- at most 1,000 commands, with 100,000 rounds in sum, and 100,000 free turns of each replica
pub record IsScriptWithinLimits (script : List Command) : Type 0 where
  pub commands : length script ≤ 1_000
  pub rounds : rounds_in script ≤ 100_000
  pub free_turns : free_turns_in script ≤ 100_000

-- what a script leaves of the limits
pub record IsLeftBy (script : List Command) (left : Limits) : Type 0 where
  pub commands : length script + left.commands ≡ 1_000
  pub rounds : rounds_in script + left.rounds ≡ 100_000
  pub free_turns : free_turns_in script + left.free_turns ≡ 100_000

-- a script leaves something of the limits, be it 0
abbrev pub HasLeft : List Command → Type 0
HasLeft script = (left : Limits) × IsLeftBy script left
