-- Turns in no order: each replica that runs goes on by itself, and the letters of a turn join the mails at once.
use Rattle.std.specs.Prelude.{◌≡◌, ℕ, ◌+◌, ◌*◌, ◌%◌, ◌==◌, ◌&&◌, ◌<◌, not, Bool, true, false, List, [], ◌∷◌, length, take, Option, None, Some, ℤ, if◌then◌else◌, slice_get}
use Rattle.std.specs.List.{fold}
use Rattle.zone_minutes.specs.declared.minute.Window.{Window}
use Rattle.cluster_sched.specs.declared.row.SchedRow.{SchedRow}
use Rattle.term_core.specs.Term.{is_leader}
use Rattle.history.specs.Book.{Row}
use Rattle.history.specs.declared.turn.Cause.{Cause}
use Rattle.history.specs.declared.turn.Cause.TheVariants.{Campaign, Tick, Hear, Answer}
use Rattle.history.specs.declared.turn.Turn.{Turn}
use Rattle.history.specs.declared.turn.Turn.TheVariants.{Did, Stopped, Restarted, Arrived}
use Rattle.script_semantics.specs.Arms.{IsTurnByArm}
use Rattle.script_semantics.specs.Round.{clock_reading}
use Rattle.script_semantics.specs.Situation.{Situation, Do, after_turn, delivered}

-- ---- turns whose letters join the mails at once

-- the situation after a turn, whose letters have joined the mails
abbrev pub after_posted : ℕ → Situation → Row → Situation
after_posted members situation row = delivered (length situation.standing.posted) (after_turn members situation row)

-- the situation after some such turns
abbrev pub after_all_posted : ℕ → Situation → List Row → Situation
after_all_posted members situation rows = fold (after_posted members) situation rows

-- the turn is the replica's
abbrev pub is_turn_of : ℕ → Turn → Bool
is_turn_of who (Did other cause made) = other == who
is_turn_of who (Stopped other cause kept) = other == who
is_turn_of who (Restarted other) = other == who
is_turn_of who (Arrived number) = false

-- How far a part has come for one replica: the situation now; the one directly after the replica's last turn of the part, or as
-- the part began; and how many turns the replica has had in it.
pub record Course : Type 0 where
  pub here : Situation
  pub seen : Situation
  pub taken : ℕ

-- as a part begins
abbrev pub begun : Situation → Course
begun situation = record { here = situation; seen = situation; taken = 0 }

-- a turn later: a replica sees what comes of its own turns, and of no other's
abbrev pub after_row_of : (members who : ℕ) → Course → Row → Course
after_row_of members who course row =
    if is_turn_of who row.turn
    then record { here = after_posted members course.here row; seen = after_posted members course.here row; taken = course.taken + 1 }
    else record course { here = after_posted members course.here row }

-- after these turns of a part that began in this situation
abbrev pub course_of : (members who : ℕ) → Situation → List Row → Course
course_of members who situation rows = fold (after_row_of members who) (begun situation) rows

-- ---- what a replica does next

-- it is time to stand for leader: in each 64 of a replica's turns at one, which is another for each replica
abbrev pub is_time_to_stand : (who taken : ℕ) → Bool
is_time_to_stand who taken = taken % 64 == 8 * who

-- with no answer and no letter a replica stands for leader, where it is time to and it doesn't lead; else its clock ticks
abbrev pub idle_cause : Window → (at : ℤ) → (who taken : ℕ) → Situation → Cause
idle_cause window at who taken situation =
    if is_time_to_stand who taken && not (is_leader (situation.standing.replicas who).term)
    then Campaign
    else Tick (clock_reading window at (situation.skews who))

-- a replica takes an answer that waits for it, or else hears the first letter of its mail
abbrev pub next_cause_by : Option SchedRow → List ℕ → Cause → Cause
next_cause_by (Some row) mail idle = Answer
next_cause_by None (number ∷ mail) idle = Hear number
next_cause_by None [] idle = idle

-- what a replica does that has had so many turns, by what it saw directly after the last of them
abbrev pub next_cause : Window → (at : ℤ) → (who taken : ℕ) → Situation → Cause
next_cause window at who taken seen = next_cause_by (seen.standing.waits who) (seen.mails who) (idle_cause window at who taken seen)

-- ---- the part

-- the turn is the next of so many of a replica that runs, and it is what the replica was to do, on its disk
pub record IsFreeTurn (members : ℕ) (window : Window) (at : ℤ) (turns who : ℕ) (course : Course) (row : Row) : Type 0 where
  pub runs : course.seen.standing.runs who ≡ true
  pub left : course.taken < turns
  pub does : IsTurnByArm members course.seen (Do who (next_cause window at who course.taken course.seen)) row

-- each turn of the replica is so
abbrev pub GoesFreely : (members : ℕ) → Window → (at : ℤ) → (turns who : ℕ) → Situation → List Row → Type 0
GoesFreely members window at turns who situation rows =
    (place : ℕ) (row : Row) → slice_get rows place ≡ Some row → is_turn_of who row.turn ≡ true
    → IsFreeTurn members window at turns who (course_of members who situation (take place rows)) row

-- the replica has all its turns in the part, unless it is stopped in the last situation that it saw
pub record TakesFreeTurns (members : ℕ) (window : Window) (at : ℤ) (turns who : ℕ) (situation : Situation) (rows : List Row) : Type 0 where
  pub goes : GoesFreely members window at turns who situation rows
  pub all : (course_of members who situation rows).seen.standing.runs who ≡ true → (course_of members who situation rows).taken ≡ turns

-- **Turns of all replicas that run, so many of each, in no order**: what a replica does in one is settled by what it saw directly
-- after the one before.
pub record IsFreePart (members : ℕ) (window : Window) (at : ℤ) (turns : ℕ) (situation : Situation) (rows : List Row) (after : Situation) : Type 0 where
  pub named : (place : ℕ) (row : Row) → slice_get rows place ≡ Some row → (who : ℕ) × (who < members) × (is_turn_of who row.turn ≡ true)
  pub each : (who : ℕ) → who < members → TakesFreeTurns members window at turns who situation rows
  pub is : after ≡ after_all_posted members situation rows
