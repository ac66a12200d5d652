-- The first turns of a part of a script: what may have come of it so far. Each relation of script_semantics between two situations has
-- one of its first turns here, which asks for nothing that comes later. Source: this project.
use Rattle.std.specs.Prelude.{◌≡◌, ◌⊎◌, ⊤, ℕ, Bool, false, zero, suc, List, [], ◌∷◌, ◌++◌, Some, ℤ, ◌<◌, true, slice_get}
use Rattle.std.specs.Int.{int_min}
use Rattle.zone_minutes.specs.declared.minute.Window.{Window}
use Rattle.due_set.specs.Table.{Table}
use Rattle.script_text.specs.declared.command.Command.{Command}
use Rattle.script_text.specs.declared.command.Command.TheVariants.{Campaign, Round, Settle, Walk, Break, Free}
use Rattle.history.specs.Book.{Row}
use Rattle.history.specs.declared.turn.Cause.TheVariants as cause
use Rattle.script_semantics.specs.Arms.{IsTurnByArm, PlaysByArms, tasks_left}
use Rattle.script_semantics.specs.Commands.{Plain, tasks_for}
use Rattle.script_semantics.specs.Free.{GoesFreely, is_turn_of}
use Rattle.script_semantics.specs.Parts.{Plays}
use Rattle.script_semantics.specs.Round.{round_tasks}
use Rattle.script_semantics.specs.Settling.{Drains, IsDrainRound, IsNextMinute, IsQuiet, Settles, cleared, coordinator, restart_tasks}
use Rattle.script_semantics.specs.Situation.{IsTurnFor, Situation, Task, Do, after_turn}
use Rattle.run_replay.specs.Tasks.{standing_tasks}

-- ---- putting parts together

-- no turn has come
abbrev pub NoneYet : Situation → List Row → Type 0
NoneYet situation rows = rows ≡ []

-- one part is whole, and another has begun
pub record GoesInto (whole : Situation → List Row → Situation → Type 0) (next : Situation → List Row → Type 0)
    (situation : Situation) (rows : List Row) : Type 0 where
  pub done : List Row
  pub middle : Situation
  pub back : List Row
  pub parts : rows ≡ done ++ back
  pub one : whole situation done middle
  pub two : next middle back

-- one part has begun, or it is whole and another has begun
abbrev pub BeginsThen : (begins : Situation → List Row → Type 0) (whole : Situation → List Row → Situation → Type 0) (next : Situation → List Row → Type 0)
    → Situation → List Row → Type 0
BeginsThen begins whole next situation rows = begins situation rows ⊎ GoesInto whole next situation rows

-- ---- turns of tasks

-- the rows are the turns of the first of the tasks, one after another
abbrev pub BeginsTurnsFor : ℕ → Situation → List Task → List Row → Type 0
BeginsTurnsFor members situation tasks [] = ⊤
BeginsTurnsFor members situation [] (row ∷ rows) = ⊥
BeginsTurnsFor members situation (task ∷ tasks) (row ∷ rows) =
    IsTurnFor situation.fates task row.turn × BeginsTurnsFor members (after_turn members situation row) tasks rows

-- the same on disks that may be armed
abbrev pub BeginsTurnsByArms : ℕ → Situation → List Task → List Row → Type 0
BeginsTurnsByArms members situation tasks [] = ⊤
BeginsTurnsByArms members situation [] (row ∷ rows) = ⊥
BeginsTurnsByArms members situation (task ∷ tasks) (row ∷ rows) =
    IsTurnByArm members situation task row × BeginsTurnsByArms members (after_turn members situation row) (tasks_left row.turn tasks) rows

-- the first turns of the tasks that the situation asks for
abbrev pub BeginsToPlay : ℕ → (Situation → List Task) → Situation → List Row → Type 0
BeginsToPlay members tasks situation rows = BeginsTurnsFor members situation (tasks situation) rows

-- the same on disks that may be armed
abbrev pub BeginsToPlayByArms : ℕ → (Situation → List Task) → Situation → List Row → Type 0
BeginsToPlayByArms members tasks situation rows = BeginsTurnsByArms members situation (tasks situation) rows

-- the first turns of so many rounds
abbrev pub BeginsRounds : ℕ → Window → (at : ℤ) → ℕ → Situation → List Row → Type 0
BeginsRounds members window at zero = NoneYet
BeginsRounds members window at (suc more) =
    BeginsThen (BeginsToPlayByArms members (round_tasks members window at)) (PlaysByArms members (round_tasks members window at))
    (BeginsRounds members window at more)

-- ---- settling

-- the first turns of a round of draining
abbrev pub BeginsDrainRound : ℕ → Table → (who : ℕ) → (at : ℤ) → Situation → List Row → Type 0
BeginsDrainRound members table who at =
    BeginsThen (BeginsToPlay members (standing_tasks who)) (Plays members (standing_tasks who)) (BeginsToPlay members (round_tasks members table.window at))

-- so many rounds have begun, none where it was quiet
abbrev pub BeginsDrainIn : ℕ → ℕ → Table → (who : ℕ) → (at : ℤ) → Situation → List Row → Type 0
BeginsDrainIn zero members table who at situation rows = NoneYet situation rows
BeginsDrainIn (suc more) members table who at situation rows =
    (IsQuiet members table who at situation → ⊥)
    × BeginsThen (BeginsDrainRound members table who at) (IsDrainRound members table who at) (BeginsDrainIn more members table who at) situation rows

-- the first turns of draining
abbrev pub BeginsDrain : ℕ → Table → (who : ℕ) → (at : ℤ) → Situation → List Row → Type 0
BeginsDrain members table who at situation rows = (rounds : ℕ) × BeginsDrainIn rounds members table who at situation rows

-- the first turns of a coordinator that stands for leader, and of the rounds behind it
abbrev pub BeginsToLead : ℕ → Table → (at : ℤ) → Situation → List Row → Type 0
BeginsToLead members table at situation =
    let who = coordinator members situation in
    BeginsThen (BeginsToPlay members (λ here. Do who cause.Campaign ∷ [])) (Plays members (λ here. Do who cause.Campaign ∷ []))
    (BeginsDrain members table who at) situation

-- **The first turns of settling at an instant**
abbrev pub BeginsSettling : ℕ → Table → (at : ℤ) → Situation → List Row → Type 0
BeginsSettling members table at =
    BeginsThen (BeginsToPlay members (restart_tasks members)) (Plain members (restart_tasks members) cleared) (BeginsToLead members table at)

-- ---- walking

-- so many minutes have begun at which there is something to do
abbrev pub BeginsWalkIn : ℕ → ℕ → Table → (who : ℕ) → (above to : ℤ) → Situation → List Row → Type 0
BeginsWalkIn zero members table who above to situation rows = NoneYet situation rows
BeginsWalkIn (suc more) members table who above to situation rows =
    (minute : ℤ) × IsNextMinute table (situation.standing.replicas who) above to minute
    × BeginsThen (BeginsDrain members table who minute) (Drains members table who minute) (BeginsWalkIn more members table who minute to) situation rows

-- the first turns from minute to minute
abbrev pub BeginsWalkOn : ℕ → Table → (who : ℕ) → (above to : ℤ) → Situation → List Row → Type 0
BeginsWalkOn members table who above to situation rows = (minutes : ℕ) × BeginsWalkIn minutes members table who above to situation rows

-- **The first turns of a walk to an instant**
abbrev pub BeginsWalk : ℕ → Table → (to : ℤ) → Situation → List Row → Type 0
BeginsWalk members table to situation =
    let at = int_min situation.latest to in
    BeginsThen (BeginsSettling members table at) (Settles members table at) (BeginsWalkOn members table (coordinator members situation) at to) situation

-- ---- free turns

-- **The first turns of a part in no order**: each is the next of some replica that has one left.
pub record BeginsFree (members : ℕ) (window : Window) (at : ℤ) (turns : ℕ) (situation : Situation) (rows : List Row) : Type 0 where
  pub named : (place : ℕ) (row : Row) → slice_get rows place ≡ Some row → (who : ℕ) × (who < members) × (is_turn_of who row.turn ≡ true)
  pub each : (who : ℕ) → who < members → GoesFreely members window at turns who situation rows

-- ---- commands

-- a command that asks for a turn at most and then sets something, on disks that don't stop
abbrev pub is_plain : Command → Bool
is_plain (Campaign who) = false
is_plain (Round at rounds) = false
is_plain (Settle at) = false
is_plain (Walk to) = false
is_plain (Break who pass image) = false
is_plain (Free at turns) = false
is_plain command = true

-- **The first turns of a command's part**
abbrev pub BeginsPart : ℕ → Table → Command → Situation → List Row → Type 0
BeginsPart members table (Campaign who) = BeginsToPlayByArms members (tasks_for (Campaign who))
BeginsPart members table (Round at rounds) = BeginsRounds members table.window at.0 rounds
BeginsPart members table (Settle at) = BeginsSettling members table at.0
BeginsPart members table (Walk to) = BeginsWalk members table to.0
BeginsPart members table (Break who pass image) = NoneYet
BeginsPart members table (Free at turns) = BeginsFree members table.window at.0 turns
BeginsPart members table command = BeginsToPlay members (tasks_for command)
