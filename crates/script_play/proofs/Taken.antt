-- The commands of a run that is read are ones that a world takes.
use Rattle.std.proofs.Common.{◌≡◌, ℕ, ◌≤◌, List, [], ◌∷◌, All, arith, refl}
use Rattle.std.specs.List.{AllByRecursion}
use Rattle.std.proofs.lemmas.List.Elements.{All-from_recursion}
use Rattle.zone_minutes.specs.declared.minute.Minute.{Minute}
use Rattle.zone_minutes.specs.declared.minute.Window.{Window}
use Rattle.script_text.specs.Command.{IsInRange}
use Rattle.script_text.specs.declared.command.Command.{Command}
use Rattle.script_text.specs.declared.command.Command.TheVariants.{Round, Campaign, Stop, Break, Restart, Cut, Heal, Drop, Repeat, Reverse, Again, Skew, Fate, Arrive, Settle, Walk, Free}
use Rattle.run_text.specs.Run.{Run}
use Rattle.run_text.specs.Sound.{IsSoundRun}
use Rattle.world_rounds.specs.Commands.{IsTaken}
use Rattle.script_play.specs.Play.{IsPlayable}

-- what a command may name is what a world takes
taken : (window : Window) (members : ℕ) (command : Command) → 1 ≤ members → IsInRange members window command → IsPlayable window members command
taken window members (Round at rounds) some range = range.0.inside
taken window members (Campaign who) some range = range
taken window members (Stop who) some range = range
taken window members (Break who pass image) some range = range.0
taken window members (Restart who) some range = range
taken window members (Cut from to) some range = tt
taken window members Heal some range = tt
taken window members (Drop from to) some range = range.1
taken window members (Repeat from to) some range = range.1
taken window members (Reverse who) some range = range
taken window members (Again letter) some range = tt
taken window members (Skew who minutes) some range = range
taken window members (Fate who word) some range = range
taken window members (Arrive late) some range = tt
taken window members (Settle at) some range = (omega (arith, some), range.inside)
taken window members (Walk to) some range = (omega (arith, some), range.inside)
taken window members (Free at turns) some range = (omega (arith, some), range.0.inside)

all_taken : (window : Window) (members : ℕ) (script : List Command) → 1 ≤ members → AllByRecursion (IsInRange members window) script
    → AllByRecursion (IsPlayable window members) script
all_taken window members [] some range = tt
all_taken window members (command ∷ script) some range = (taken window members command some range.0, all_taken window members script some range.1)

pub script_taken : (next : ℕ) (run : Run) → IsSoundRun next run → All (IsPlayable run.window run.members) run.commands
script_taken next run sound =
    All-from_recursion (IsPlayable run.window run.members) run.commands
    (all_taken run.window run.members run.commands sound.replicas.some sound.script.in_range)

-- a command that is played, and isn't that of free turns, is one that a world takes
pub other_taken : (window : Window) (members : ℕ) (command : Command) → ((at : Minute) (turns : ℕ) → command ≡ Free at turns → ⊥)
    → IsPlayable window members command → IsTaken window members command
other_taken window members (Round at rounds) other playable = playable
other_taken window members (Campaign who) other playable = playable
other_taken window members (Stop who) other playable = playable
other_taken window members (Break who pass image) other playable = playable
other_taken window members (Restart who) other playable = playable
other_taken window members (Cut from to) other playable = playable
other_taken window members Heal other playable = playable
other_taken window members (Drop from to) other playable = playable
other_taken window members (Repeat from to) other playable = playable
other_taken window members (Reverse who) other playable = playable
other_taken window members (Again letter) other playable = playable
other_taken window members (Skew who minutes) other playable = playable
other_taken window members (Fate who word) other playable = playable
other_taken window members (Arrive late) other playable = playable
other_taken window members (Settle at) other playable = playable
other_taken window members (Walk to) other playable = playable
other_taken window members (Free at turns) other playable = absurd (other at turns refl)
