-- Which commands a world takes.
use Rattle.std.specs.Prelude.{ℕ, ◌<◌, ⊤}
use Rattle.zone_minutes.specs.Window.{IsInWindow}
use Rattle.zone_minutes.specs.declared.minute.Window.{Window}
use Rattle.script_text.specs.declared.command.Command.{Command}
use Rattle.script_text.specs.declared.command.Command.TheVariants.{Round, Campaign, Stop, Break, Restart, Cut, Heal, Drop, Repeat, Reverse, Again, Skew, Fate, Arrive, Settle, Walk, Free}
use Rattle.script_text.specs.Command.{IsSkew}

-- The command is one that a world takes, and names replicas of it, an instant of the window, and a clock at most so far ahead.
abbrev pub IsTaken : Window → ℕ → Command → Type 0
IsTaken window members (Round at rounds) = IsInWindow window at.0
IsTaken window members (Campaign who) = who < members
IsTaken window members (Stop who) = who < members
IsTaken window members (Cut from to) = ⊤
IsTaken window members Heal = ⊤
IsTaken window members (Reverse who) = who < members
IsTaken window members (Skew who minutes) = (who < members) × IsSkew minutes
IsTaken window members (Fate who word) = who < members
IsTaken window members (Break who pass image) = who < members
IsTaken window members (Restart who) = who < members
IsTaken window members (Drop from to) = to < members
IsTaken window members (Repeat from to) = to < members
IsTaken window members (Again letter) = ⊤
IsTaken window members (Arrive late) = ⊤
IsTaken window members (Settle at) = (0 < members) × IsInWindow window at.0
IsTaken window members (Walk to) = (0 < members) × IsInWindow window to.0
IsTaken window members (Free at turns) = ⊥
