-- When a book obeys a script: a part for each command, each from the situation in which the one before it ended.
use Rattle.std.specs.Prelude.{ℕ, List, [], ◌∷◌, pos, ◌-ℤ◌}
use Rattle.due_set.specs.Table.{Table}
use Rattle.script_text.specs.declared.command.Command.{Command}
use Rattle.script_text.specs.declared.command.Command.TheVariants.{Campaign, Round, Settle, Walk, Break, Free}
use Rattle.history.specs.Book.{Row}
use Rattle.script_semantics.specs.Arms.{AreRoundsByArms, PlaysByArms, armed_by}
use Rattle.script_semantics.specs.Commands.{Plain, set_by, tasks_for}
use Rattle.script_semantics.specs.Free.{IsFreePart}
use Rattle.script_semantics.specs.Parts.{Sets, Stays, Then}
use Rattle.script_semantics.specs.Settling.{Settles, Walks}
use Rattle.script_semantics.specs.Situation.{Situation, first_situation}

-- The part of a command. Settling and walking know of no arms, since they begin by disarming all disks.
abbrev pub IsPartOf : ℕ → Table → Command → Situation → List Row → Situation → Type 0
IsPartOf members table (Campaign who) = PlaysByArms members (tasks_for (Campaign who))
IsPartOf members table (Round at rounds) = AreRoundsByArms members table.window at.0 rounds
IsPartOf members table (Settle at) = Settles members table at.0
IsPartOf members table (Walk to) = Walks members table to.0
IsPartOf members table (Break who pass image) = Sets (armed_by who pass image)
IsPartOf members table (Free at turns) = IsFreePart members table.window at.0 turns
IsPartOf members table command = Plain members (tasks_for command) (set_by command)

-- the parts of commands, one after another
abbrev pub ArePartsOf : ℕ → Table → List Command → Situation → List Row → Situation → Type 0
ArePartsOf members table [] = Stays
ArePartsOf members table (command ∷ commands) = Then (IsPartOf members table command) (ArePartsOf members table commands)

-- **The turns of a book obey a script**: the parts of its commands, and then a walk to the window's last minute.
pub record Obeys (members : ℕ) (table : Table) (script : List Command) (rows : List Row) : Type 0 where
  pub after : Situation
  pub obeys : Then (ArePartsOf members table script) (Walks members table (table.window.until.0 -ℤ pos 1)) (first_situation members table) rows after
