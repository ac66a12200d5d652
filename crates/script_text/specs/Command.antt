-- The commands of a script, each by the text of its line: words separated by one space, and numbers in decimal.
-- Source: this project; stamps by zone_minutes.
use Rattle.std.specs.Prelude.{◌≡◌, ℕ, ◌<◌, ◌≤◌, ◌^◌, List, ◌∷◌, ◌++◌, ℤ, pos, negsuc, codes, decimal, ⊤}
use Rattle.std.specs.Fmt.{signed_decimal}
use Rattle.jiff_core.specs.Calendar.{IsBetween}
use Rattle.zone_minutes.specs.Civil.{IsCalendarMinute}
use Rattle.zone_minutes.specs.Stamp.{stamp_text}
use Rattle.zone_minutes.specs.Window.{IsInWindow}
use Rattle.zone_minutes.specs.declared.minute.Window.{Window}
use Rattle.script_text.specs.declared.command.Command.{Command}
use Rattle.script_text.specs.declared.command.Command.TheVariants.{Round, Campaign, Stop, Break, Restart, Cut, Heal, Drop, Repeat, Reverse, Again, Skew, Fate, Arrive, Settle, Walk, Free}
use Rattle.script_text.specs.declared.command.FateWord.{FateWord}
use Rattle.script_text.specs.declared.command.FateWord.TheVariants.{Done, LostBefore, LostAfter, Late}

-- the word of a fate
abbrev pub fate_word : FateWord → List ℕ
fate_word Done = codes "done"
fate_word LostBefore = codes "lost-before"
fate_word LostAfter = codes "lost-after"
fate_word Late = codes "late"

-- the line of a command
abbrev pub command_line : Command → List ℕ
command_line (Round at rounds) = codes "round " ++ stamp_text at.0 ++ 32 ∷ decimal rounds
command_line (Campaign member) = codes "campaign " ++ decimal member
command_line (Stop member) = codes "stop " ++ decimal member
command_line (Break member pass image) = codes "break " ++ decimal member ++ (32 ∷ decimal pass ++ 32 ∷ decimal image)
command_line (Restart member) = codes "restart " ++ decimal member
command_line (Cut from to) = codes "cut " ++ decimal from ++ 32 ∷ decimal to
command_line Heal = codes "heal"
command_line (Drop from to) = codes "drop " ++ decimal from ++ 32 ∷ decimal to
command_line (Repeat from to) = codes "repeat " ++ decimal from ++ 32 ∷ decimal to
command_line (Reverse member) = codes "reverse " ++ decimal member
command_line (Again letter) = codes "again " ++ decimal letter
command_line (Skew member minutes) = codes "skew " ++ decimal member ++ 32 ∷ signed_decimal minutes
command_line (Fate member fate) = codes "fate " ++ decimal member ++ 32 ∷ fate_word fate
command_line (Arrive late) = codes "arrive " ++ decimal late
command_line (Settle at) = codes "settle " ++ stamp_text at.0
command_line (Walk to) = codes "walk " ++ stamp_text to.0
command_line (Free at turns) = codes "free " ++ stamp_text at.0 ++ 32 ∷ decimal turns

-- an instant of the window that a stamp can say
pub record IsStampIn (window : Window) (instant : ℤ) : Type 0 where
  pub calendar : IsCalendarMinute instant
  pub inside : IsInWindow window instant

-- a number from 1 to the last
pub record IsCount (last count : ℕ) : Type 0 where
  pub some : 1 ≤ count
  pub most : count ≤ last

-- so many minutes may a clock be ahead, or behind
abbrev pub IsSkew : ℤ → Type 0
IsSkew minutes = IsBetween (negsuc 9_999) (pos 10_000) minutes

-- what a command may name, in a run of so many replicas over the window
abbrev pub IsInRange : ℕ → Window → Command → Type 0
IsInRange members window (Round at rounds) = IsStampIn window at.0 × IsCount 10_000 rounds
IsInRange members window (Campaign member) = member < members
IsInRange members window (Stop member) = member < members
IsInRange members window (Break member pass image) = (member < members) × (pass < 2 ^ 32) × (image < 2 ^ 32)
IsInRange members window (Restart member) = member < members
IsInRange members window (Cut from to) = (from < members) × (to < members)
IsInRange members window Heal = ⊤
IsInRange members window (Drop from to) = (from < members) × (to < members)
IsInRange members window (Repeat from to) = (from < members) × (to < members)
IsInRange members window (Reverse member) = member < members
IsInRange members window (Again letter) = letter < 2 ^ 32
IsInRange members window (Skew member minutes) = (member < members) × IsSkew minutes
IsInRange members window (Fate member word) = member < members
IsInRange members window (Arrive late) = late < 2 ^ 32
IsInRange members window (Settle at) = IsStampIn window at.0
IsInRange members window (Walk to) = IsStampIn window to.0
IsInRange members window (Free at turns) = IsStampIn window at.0 × IsCount 20_000 turns

-- the line says the command
pub record IsCommandLine (line : List ℕ) (members : ℕ) (window : Window) (command : Command) : Type 0 where
  pub is : line ≡ command_line command
  pub in_range : IsInRange members window command
