-- A whole part begins with its turns.
use Rattle.std.specs.Int.{int_min}
use Rattle.std.proofs.Common.{◌≡◌, ℕ, zero, suc, ℤ, List, [], ◌∷◌, ◌++◌, append-nil, inr, ap, sym, subst, ◌∙◌}
use Rattle.zone_minutes.specs.declared.minute.Window.{Window}
use Rattle.due_set.specs.Table.{Table}
use Rattle.script_text.specs.declared.command.Command.{Command}
use Rattle.script_text.specs.declared.command.Command.TheVariants as command
use Rattle.history.specs.Book.{Row}
use Rattle.history.specs.declared.turn.Cause.TheVariants.{Campaign}
use Rattle.script_semantics.specs.Arms.{AreTurnsByArms, AreRoundsByArms, PlaysByArms, armed_by, tasks_left}
use Rattle.script_semantics.specs.Commands.{Plain, set_by, tasks_for}
use Rattle.script_semantics.specs.Free.{IsFreePart}
use Rattle.script_semantics.specs.Parts.{Plays, Sets, Then}
use Rattle.script_semantics.specs.Round.{round_tasks}
use Rattle.script_semantics.specs.Script.{IsPartOf}
use Rattle.script_semantics.specs.Settling.{Drains, DrainsIn, IsDrainRound, IsLedToQuiet, Settles, Walks, WalksIn, WalksOn, cleared, coordinator, restart_tasks}
use Rattle.script_semantics.specs.Situation.{AreTurnsFor, Situation, Task, Do, after_turn}
use Rattle.run_replay.specs.Tasks.{standing_tasks}
use Rattle.run_audit.specs.Begins.{BeginsDrain, BeginsDrainIn, BeginsDrainRound, BeginsFree, BeginsPart, BeginsRounds, BeginsSettling, BeginsThen, BeginsToLead, BeginsToPlay, BeginsToPlayByArms, BeginsTurnsByArms, BeginsTurnsFor, BeginsWalk, BeginsWalkIn, BeginsWalkOn, NoneYet}

-- what begins with the turns of what is whole
abbrev pub BeginsAsWhole : (begins : Situation → List Row → Type 0) (whole : Situation → List Row → Situation → Type 0) → Type 0
BeginsAsWhole begins whole = (situation : Situation) (rows : List Row) (after : Situation) → whole situation rows after → begins situation rows

pub then_begins : (begins : Situation → List Row → Type 0) (whole : Situation → List Row → Situation → Type 0) (next : Situation → List Row → Type 0)
    (second : Situation → List Row → Situation → Type 0) → BeginsAsWhole next second → BeginsAsWhole (BeginsThen begins whole next) (Then whole second)
then_begins begins whole next second other situation rows after is =
    inr (record { done = is.front; middle = is.middle; back = is.back; parts = is.parts; one = is.one; two = other is.middle is.back after is.two })

sets_begins : (change : Situation → Situation) → BeginsAsWhole NoneYet (Sets change)
sets_begins change situation rows after is = is.none

turns_begin : (members : ℕ) (situation : Situation) (tasks : List Task) (rows : List Row) → AreTurnsFor members situation tasks rows
    → BeginsTurnsFor members situation tasks rows
turns_begin members situation tasks [] are = tt
turns_begin members situation [] (row ∷ rows) are = cc
turns_begin members situation (task ∷ tasks) (row ∷ rows) are = (are.0, turns_begin members (after_turn members situation row) tasks rows are.1)

turns_by_arms_begin : (members : ℕ) (situation : Situation) (tasks : List Task) (rows : List Row) → AreTurnsByArms members situation tasks rows
    → BeginsTurnsByArms members situation tasks rows
turns_by_arms_begin members situation tasks [] are = tt
turns_by_arms_begin members situation [] (row ∷ rows) are = cc
turns_by_arms_begin members situation (task ∷ tasks) (row ∷ rows) are =
    (are.0, turns_by_arms_begin members (after_turn members situation row) (tasks_left row.turn tasks) rows are.1)

pub plays_begins : (members : ℕ) (tasks : Situation → List Task) → BeginsAsWhole (BeginsToPlay members tasks) (Plays members tasks)
plays_begins members tasks situation rows after is = turns_begin members situation (tasks situation) rows is.turns

pub plays_by_arms_begins : (members : ℕ) (tasks : Situation → List Task) → BeginsAsWhole (BeginsToPlayByArms members tasks) (PlaysByArms members tasks)
plays_by_arms_begins members tasks situation rows after is = turns_by_arms_begin members situation (tasks situation) rows is.turns

pub plain_begins : (members : ℕ) (tasks : Situation → List Task) (change : Situation → Situation) → BeginsAsWhole (BeginsToPlay members tasks) (Plain members tasks change)
plain_begins members tasks change situation rows after is =
    let all : rows ≡ is.front = is.parts ∙ ap (λ (l : List Row). is.front ++ l) is.two.none ∙ append-nil is.front in
    subst (BeginsToPlay members tasks situation) (sym all) (plays_begins members tasks situation is.front is.middle is.one)

rounds_begin : (members : ℕ) (window : Window) (at : ℤ) (rounds : ℕ) → BeginsAsWhole (BeginsRounds members window at rounds) (AreRoundsByArms members window at rounds)
rounds_begin members window at zero = sets_begins (λ situation. situation)
rounds_begin members window at (suc more) =
    let tasks = round_tasks members window at in
    then_begins (BeginsToPlayByArms members tasks) (PlaysByArms members tasks) (BeginsRounds members window at more) (AreRoundsByArms members window at more)
    (rounds_begin members window at more)

module _ (members : ℕ) (table : Table) where
  pub drain_round_begins : (who : ℕ) (at : ℤ) → BeginsAsWhole (BeginsDrainRound members table who at) (IsDrainRound members table who at)
  drain_round_begins who at =
      let round = round_tasks members table.window at in
      then_begins (BeginsToPlay members (standing_tasks who)) (Plays members (standing_tasks who)) (BeginsToPlay members round) (Plays members round)
      (plays_begins members round)

  drain_in_begins : (rounds : ℕ) (who : ℕ) (at : ℤ) → BeginsAsWhole (BeginsDrainIn rounds members table who at) (DrainsIn rounds members table who at)
  drain_in_begins zero who at situation rows after is = is.stays.none
  drain_in_begins (suc more) who at situation rows after is = (
    is.not_yet,
    then_begins (BeginsDrainRound members table who at) (IsDrainRound members table who at) (BeginsDrainIn more members table who at)
        (DrainsIn more members table who at) (drain_in_begins more who at) situation rows after is.goes_on,
  )

  pub drain_begins : (who : ℕ) (at : ℤ) → BeginsAsWhole (BeginsDrain members table who at) (Drains members table who at)
  drain_begins who at situation rows after is = (is.0, drain_in_begins is.0 who at situation rows after is.1)

  lead_begins : (at : ℤ) → BeginsAsWhole (BeginsToLead members table at) (IsLedToQuiet members table at)
  lead_begins at situation =
      let who = coordinator members situation in
      let stands : Situation → List Task = λ here. Do who Campaign ∷ [] in
      then_begins (BeginsToPlay members stands) (Plays members stands) (BeginsDrain members table who at) (Drains members table who at) (drain_begins who at) situation

  pub settling_begins : (at : ℤ) → BeginsAsWhole (BeginsSettling members table at) (Settles members table at)
  settling_begins at =
      then_begins (BeginsToPlay members (restart_tasks members)) (Plain members (restart_tasks members) cleared) (BeginsToLead members table at)
      (IsLedToQuiet members table at) (lead_begins at)

  walk_in_begins : (minutes : ℕ) (who : ℕ) (above to : ℤ) → BeginsAsWhole (BeginsWalkIn minutes members table who above to) (WalksIn minutes members table who above to)
  walk_in_begins zero who above to situation rows after is = is.stays.none
  walk_in_begins (suc more) who above to situation rows after (minute, next, goes) = (
    minute,
    next,
    then_begins (BeginsDrain members table who minute) (Drains members table who minute) (BeginsWalkIn more members table who minute to)
        (WalksIn more members table who minute to) (walk_in_begins more who minute to) situation rows after goes,
  )

  walk_on_begins : (who : ℕ) (above to : ℤ) → BeginsAsWhole (BeginsWalkOn members table who above to) (WalksOn members table who above to)
  walk_on_begins who above to situation rows after is = (is.0, walk_in_begins is.0 who above to situation rows after is.1)

  pub walk_begins : (to : ℤ) → BeginsAsWhole (BeginsWalk members table to) (Walks members table to)
  walk_begins to situation =
      let at = int_min situation.latest to in
      let who = coordinator members situation in
      then_begins (BeginsSettling members table at) (Settles members table at) (BeginsWalkOn members table who at to) (WalksOn members table who at to)
      (walk_on_begins who at to) situation

  free_begins : (at : ℤ) (turns : ℕ) → BeginsAsWhole (BeginsFree members table.window at turns) (IsFreePart members table.window at turns)
  free_begins at turns situation rows after is = record { named = is.named; each = λ who lt. (is.each who lt).goes }

  -- **A whole part begins with its turns.**
  pub part_begins : (given : Command) → BeginsAsWhole (BeginsPart members table given) (IsPartOf members table given)
  part_begins (command.Campaign who) = plays_by_arms_begins members (tasks_for (command.Campaign who))
  part_begins (command.Round at rounds) = rounds_begin members table.window at.0 rounds
  part_begins (command.Settle at) = settling_begins at.0
  part_begins (command.Walk to) = walk_begins to.0
  part_begins (command.Break who pass image) = sets_begins (armed_by who pass image)
  part_begins (command.Free at turns) = free_begins at.0 turns
  part_begins (command.Stop who) = plain_begins members (tasks_for (command.Stop who)) (set_by (command.Stop who))
  part_begins (command.Restart who) = plain_begins members (tasks_for (command.Restart who)) (set_by (command.Restart who))
  part_begins (command.Cut from to) = plain_begins members (tasks_for (command.Cut from to)) (set_by (command.Cut from to))
  part_begins command.Heal = plain_begins members (tasks_for command.Heal) (set_by command.Heal)
  part_begins (command.Drop from to) = plain_begins members (tasks_for (command.Drop from to)) (set_by (command.Drop from to))
  part_begins (command.Repeat from to) = plain_begins members (tasks_for (command.Repeat from to)) (set_by (command.Repeat from to))
  part_begins (command.Reverse who) = plain_begins members (tasks_for (command.Reverse who)) (set_by (command.Reverse who))
  part_begins (command.Again letter) = plain_begins members (tasks_for (command.Again letter)) (set_by (command.Again letter))
  part_begins (command.Skew who minutes) = plain_begins members (tasks_for (command.Skew who minutes)) (set_by (command.Skew who minutes))
  part_begins (command.Fate who fate) = plain_begins members (tasks_for (command.Fate who fate)) (set_by (command.Fate who fate))
  part_begins (command.Arrive late) = plain_begins members (tasks_for (command.Arrive late)) (set_by (command.Arrive late))
