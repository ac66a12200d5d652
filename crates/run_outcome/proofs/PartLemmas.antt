-- Each part of a script comes to the standing and to the latest clock reading of its turns.
use Rattle.std.proofs.Common.{◌≡◌, ◌↔◌, ℕ, zero, suc, Option, Some, None, List, [], ◌∷◌, ◌++◌, fold, ℤ, ◌≤ℤ◌, refl, sym, ap, ◌∙◌, inl, inr, subst, arith}
use Rattle.std.specs.List.{slice_get}
use Rattle.std.specs.Int.{int_min}
use Rattle.std.proofs.lemmas.Bool.{cases_Bool}
use Rattle.std.proofs.lemmas.Int.{ints, clamps}
use Rattle.std.proofs.lemmas.List.Elements.{All-cons, All-head, All-nil, All-tail}
use Rattle.std.proofs.lemmas.List.Sums.{fold-append}
use Rattle.zone_minutes.specs.declared.minute.Window.{Window}
use Rattle.due_set.specs.Table.{Table}
use Rattle.script_text.specs.declared.command.Command.{Command}
use Rattle.script_text.specs.declared.command.Command.TheVariants as command
use Rattle.history.specs.Book.{PostedLetter, Row, Standing, after_row}
use Rattle.history.specs.declared.turn.Cause.{Cause}
use Rattle.history.specs.declared.turn.Cause.TheVariants.{Campaign, Tick, Hear, Answer}
use Rattle.history.specs.declared.turn.Turn.{Turn}
use Rattle.history.specs.declared.turn.Turn.TheVariants.{Did, Stopped, Restarted, Arrived}
use Rattle.history.proofs.Turns.{after_rows}
use Rattle.script_semantics.specs.Arms.{AreRoundsByArms, PlaysByArms, armed_by}
use Rattle.script_semantics.specs.Commands.{Plain, set_by, tasks_for, with_letter}
use Rattle.script_semantics.specs.Free.{IsFreePart, after_all_posted, after_posted}
use Rattle.script_semantics.specs.Parts.{Plays, Sets, Stays, Then}
use Rattle.script_semantics.specs.Round.{IsRound, round_tasks}
use Rattle.script_semantics.specs.Script.{ArePartsOf, IsPartOf}
use Rattle.script_semantics.specs.Settling.{Drains, DrainsIn, IsDrainRound, IsLedToQuiet, Settles, Walks, WalksIn, WalksOn, cleared, campaign_tasks, coordinator, restart_tasks}
use Rattle.script_semantics.specs.Situation.{Performs, Situation, Task, Do, after_turn, after_turns, latest_after, latest_with}
use Rattle.launch_safety.specs.Readings.{AreTurnsBy, IsTurnBy, ReadsBy}

-- the latest reading after some turns
abbrev pub latest_in : ℤ → List Row → ℤ
latest_in latest rows = fold (λ reading row. latest_after row.turn reading) latest rows

-- the part comes to what its turns make of the standing and of the latest reading
pub record Comes (members : ℕ) (situation : Situation) (rows : List Row) (after : Situation) : Type 0 where
  pub standing : after.standing ≡ after_rows members situation.standing rows
  pub latest : after.latest ≡ latest_in situation.latest rows

-- ---- how parts are put together

abbrev pub Goes : ℕ → (Situation → List Row → Situation → Type 0) → Type 0
Goes members part = (situation : Situation) (rows : List Row) (after : Situation) → part situation rows after → Comes members situation rows after

then_comes : (members : ℕ) (situation middle after : Situation) (front back : List Row) → Comes members situation front middle → Comes members middle back after → Comes members situation (front ++ back) after
then_comes members situation middle after front back one two = record {
  standing = two.standing ∙ ap (λ st. after_rows members st back) one.standing ∙ sym (fold-append (λ (st : Standing) (row : Row). after_row members st row.turn row.event row.letters) situation.standing front back);
  latest = two.latest ∙ ap (λ reading. latest_in reading back) one.latest ∙ sym (fold-append (λ (reading : ℤ) (row : Row). latest_after row.turn reading) situation.latest front back);
}

both : (members : ℕ) (first second : Situation → List Row → Situation → Type 0) → Goes members first → Goes members second → Goes members (Then first second)
both members first second goes_first goes_second situation rows after parts =
    subst (λ some. Comes members situation some after) (sym parts.parts)
    (then_comes members situation parts.middle after parts.front parts.back (goes_first situation parts.front parts.middle parts.one) (goes_second parts.middle parts.back after parts.two))

-- a change leaves what stands and the latest reading
record Keeps (change : Situation → Situation) : Type 0 where
  standing : (situation : Situation) → (change situation).standing ≡ situation.standing
  latest : (situation : Situation) → (change situation).latest ≡ situation.latest

sets : (members : ℕ) (change : Situation → Situation) → Keeps change → Goes members (Sets change)
sets members change keeps situation rows after set =
    subst (λ some. Comes members situation some after) (sym set.none)
    (record { standing = ap (λ s. s.standing) set.is ∙ keeps.standing situation; latest = ap (λ s. s.latest) set.is ∙ keeps.latest situation })

stays : (members : ℕ) → Goes members Stays
stays members = sets members (λ situation. situation) (record { standing = λ situation. refl; latest = λ situation. refl })

turns_come : (members : ℕ) (situation : Situation) (rows : List Row) → Comes members situation rows (after_turns members situation rows)
turns_come members situation [] = record { standing = refl; latest = refl }
turns_come members situation (row ∷ rows) = (let more = turns_come members (after_turn members situation row) rows in record { standing = more.standing; latest = more.latest })

pub performs : (members : ℕ) (tasks : List Task) → Goes members (Performs members tasks)
performs members tasks situation rows after done =
    let turns = turns_come members situation rows in
    record { standing = ap (λ s. s.standing) done.is ∙ turns.standing; latest = ap (λ s. s.latest) done.is ∙ turns.latest }

plays : (members : ℕ) (tasks : Situation → List Task) → Goes members (Plays members tasks)
plays members tasks situation rows after done = performs members (tasks situation) situation rows after done

plain : (members : ℕ) (tasks : Situation → List Task) (change : Situation → Situation) → Keeps change → Goes members (Plain members tasks change)
plain members tasks change keeps = both members (Plays members tasks) (Sets change) (plays members tasks) (sets members change keeps)

-- ---- rounds and settling

drain_round : (members : ℕ) (table : Table) (who : ℕ) (at : ℤ) → Goes members (IsDrainRound members table who at)
drain_round members table who at =
    both members (Plays members (λ situation. campaign_tasks who (situation.standing.replicas who).term)) (IsRound members table.window at)
    (plays members (λ situation. campaign_tasks who (situation.standing.replicas who).term)) (plays members (round_tasks members table.window at))

drains_in : (rounds members : ℕ) (table : Table) (who : ℕ) (at : ℤ) → Goes members (DrainsIn rounds members table who at)
drains_in zero members table who at situation rows after drains = stays members situation rows after drains.stays
drains_in (suc more) members table who at situation rows after drains =
    both members (IsDrainRound members table who at) (DrainsIn more members table who at) (drain_round members table who at) (drains_in more members table who at)
    situation rows after drains.goes_on

pub drains_come : (members : ℕ) (table : Table) (who : ℕ) (at : ℤ) → Goes members (Drains members table who at)
drains_come members table who at situation rows after (rounds, drains) = drains_in rounds members table who at situation rows after drains

led : (members : ℕ) (table : Table) (at : ℤ) → Goes members (IsLedToQuiet members table at)
led members table at situation rows after leads =
    let who = coordinator members situation in
    both members (Plays members (λ here. Do who Campaign ∷ [])) (Drains members table who at) (plays members (λ here. Do who Campaign ∷ [])) (drains_come members table who at)
    situation rows after leads

pub settles_come : (members : ℕ) (table : Table) (at : ℤ) → Goes members (Settles members table at)
settles_come members table at =
    both members (Plain members (restart_tasks members) cleared) (IsLedToQuiet members table at)
    (plain members (restart_tasks members) cleared (record { standing = λ situation. refl; latest = λ situation. refl })) (led members table at)

walks_in : (minutes members : ℕ) (table : Table) (who : ℕ) (above to : ℤ) → Goes members (WalksIn minutes members table who above to)
walks_in zero members table who above to situation rows after walks = stays members situation rows after walks.stays
walks_in (suc more) members table who above to situation rows after (minute, next, walks) =
    both members (Drains members table who minute) (WalksIn more members table who minute to) (drains_come members table who minute) (walks_in more members table who minute to)
    situation rows after walks

walks_on : (members : ℕ) (table : Table) (who : ℕ) (above to : ℤ) → Goes members (WalksOn members table who above to)
walks_on members table who above to situation rows after (minutes, walks) = walks_in minutes members table who above to situation rows after walks

pub walks_come : (members : ℕ) (table : Table) (to : ℤ) → Goes members (Walks members table to)
walks_come members table to situation rows after walks =
    let at = int_min situation.latest to in
    both members (Settles members table at) (WalksOn members table (coordinator members situation) at to) (settles_come members table at)
    (walks_on members table (coordinator members situation) at to) situation rows after walks

-- ---- commands

plays_by_arms : (members : ℕ) (tasks : Situation → List Task) → Goes members (PlaysByArms members tasks)
plays_by_arms members tasks situation rows after done =
    let turns = turns_come members situation rows in
    record { standing = ap (λ s. s.standing) done.is ∙ turns.standing; latest = ap (λ s. s.latest) done.is ∙ turns.latest }

rounds_come : (members : ℕ) (table : Table) (at : ℤ) (rounds : ℕ) → Goes members (AreRoundsByArms members table.window at rounds)
rounds_come members table at zero = stays members
rounds_come members table at (suc more) =
    both members (PlaysByArms members (round_tasks members table.window at)) (AreRoundsByArms members table.window at more)
    (plays_by_arms members (round_tasks members table.window at)) (rounds_come members table at more)

arm_keeps : (who pass image : ℕ) → Keeps (armed_by who pass image)
arm_keeps who pass image = record {
  standing = λ situation. elim (cases_Bool (situation.standing.runs who)) [ inl runs ↦ rw runs refl | inr stopped ↦ rw stopped refl ];
  latest = λ situation. elim (cases_Bool (situation.standing.runs who)) [ inl runs ↦ rw runs refl | inr stopped ↦ rw stopped refl ];
}

-- a letter that comes again leaves what stands
letter_keeps : (number : ℕ) (letter : Option PostedLetter) (situation : Situation) → ((with_letter number letter situation).standing ≡ situation.standing) × ((with_letter number letter situation).latest ≡ situation.latest)
letter_keeps number None situation = (refl, refl)
letter_keeps number (Some letter) situation = elim (cases_Bool (situation.standing.runs letter.to)) [
  | inl runs ↦ rw runs (refl, refl)
  | inr stopped ↦ rw stopped (refl, refl)
]

set_keeps : (given : Command) → Keeps (set_by given)
set_keeps (command.Again number) = record {
  standing = λ situation. (letter_keeps number (slice_get situation.standing.posted number) situation).0;
  latest = λ situation. (letter_keeps number (slice_get situation.standing.posted number) situation).1;
}
set_keeps (command.Cut from to) = record { standing = λ situation. refl; latest = λ situation. refl }
set_keeps command.Heal = record { standing = λ situation. refl; latest = λ situation. refl }
set_keeps (command.Drop from to) = record { standing = λ situation. refl; latest = λ situation. refl }
set_keeps (command.Repeat from to) = record { standing = λ situation. refl; latest = λ situation. refl }
set_keeps (command.Reverse who) = record { standing = λ situation. refl; latest = λ situation. refl }
set_keeps (command.Skew who minutes) = record { standing = λ situation. refl; latest = λ situation. refl }
set_keeps (command.Fate who word) = record { standing = λ situation. refl; latest = λ situation. refl }
set_keeps other = record { standing = λ situation. refl; latest = λ situation. refl }

command_plain : (members : ℕ) (given : Command) → Goes members (Plain members (tasks_for given) (set_by given))
command_plain members given = plain members (tasks_for given) (set_by given) (set_keeps given)

-- letters that join the mails at once leave what stands
posted_come : (members : ℕ) (situation : Situation) (rows : List Row) → Comes members situation rows (after_all_posted members situation rows)
posted_come members situation [] = record { standing = refl; latest = refl }
posted_come members situation (row ∷ rows) =
    (let more = posted_come members (after_posted members situation row) rows in record { standing = more.standing; latest = more.latest })

free_comes : (members : ℕ) (window : Window) (at : ℤ) (turns : ℕ) → Goes members (IsFreePart members window at turns)
free_comes members window at turns situation rows after part =
    subst (λ some. Comes members situation rows some) (sym part.is) (posted_come members situation rows)

part_comes : (members : ℕ) (table : Table) (given : Command) → Goes members (IsPartOf members table given)
part_comes members table (command.Round at rounds) situation rows after part = rounds_come members table at.0 rounds situation rows after part
part_comes members table (command.Settle at) situation rows after part = settles_come members table at.0 situation rows after part
part_comes members table (command.Walk to) situation rows after part = walks_come members table to.0 situation rows after part
part_comes members table (command.Campaign who) situation rows after part = plays_by_arms members (tasks_for (command.Campaign who)) situation rows after part
part_comes members table (command.Break who pass image) situation rows after part =
    sets members (armed_by who pass image) (arm_keeps who pass image) situation rows after part
part_comes members table (command.Free at turns) situation rows after part = free_comes members table.window at.0 turns situation rows after part
part_comes members table given situation rows after part = command_plain members given situation rows after part

-- the parts of a script do
pub parts_come : (members : ℕ) (table : Table) (script : List Command) → Goes members (ArePartsOf members table script)
parts_come members table [] = stays members
parts_come members table (given ∷ script) =
    both members (IsPartOf members table given) (ArePartsOf members table script) (part_comes members table given) (parts_come members table script)

-- ---- the latest reading

cause_latest : (at latest : ℤ) (cause : Cause) → ReadsBy at cause → latest ≤ℤ at → latest_with cause latest ≤ℤ at
cause_latest at latest (Tick now) by low = omega (arith, ints, clamps, by, low)
cause_latest at latest Campaign by low = low
cause_latest at latest (Hear number) by low = low
cause_latest at latest Answer by low = low

turn_latest : (at latest : ℤ) (turn : Turn) → IsTurnBy at turn → latest ≤ℤ at → latest_after turn latest ≤ℤ at
turn_latest at latest (Did who cause made) by low = cause_latest at latest cause by low
turn_latest at latest (Stopped who None kept) by low = low
turn_latest at latest (Stopped who (Some cause) kept) by low = cause_latest at latest cause by low
turn_latest at latest (Restarted who) by low = low
turn_latest at latest (Arrived number) by low = low

-- it is no later than an instant that none is later than
pub latest_by : (at latest : ℤ) (rows : List Row) → AreTurnsBy at rows → latest ≤ℤ at → latest_in latest rows ≤ℤ at
latest_by at latest [] by low = low
latest_by at latest (row ∷ rows) by low =
    latest_by at (latest_after row.turn latest) rows (All-tail (λ (r : Row). IsTurnBy at r.turn) row rows by)
    (turn_latest at latest row.turn (All-head (λ (r : Row). IsTurnBy at r.turn) row rows by) low)

cause_rises : (latest : ℤ) (cause : Cause) → latest ≤ℤ latest_with cause latest
cause_rises latest (Tick now) = omega (arith, ints, clamps)
cause_rises latest Campaign = omega (arith, ints)
cause_rises latest (Hear number) = omega (arith, ints)
cause_rises latest Answer = omega (arith, ints)

turn_rises : (latest : ℤ) (turn : Turn) → latest ≤ℤ latest_after turn latest
turn_rises latest (Did who cause made) = cause_rises latest cause
turn_rises latest (Stopped who None kept) = omega (arith, ints)
turn_rises latest (Stopped who (Some cause) kept) = cause_rises latest cause
turn_rises latest (Restarted who) = omega (arith, ints)
turn_rises latest (Arrived number) = omega (arith, ints)

pub rises : (latest : ℤ) (rows : List Row) → latest ≤ℤ latest_in latest rows
rises latest [] = omega (arith, ints)
rises latest (row ∷ rows) =
    let first = turn_rises latest row.turn in
    let rest = rises (latest_after row.turn latest) rows in
    omega (arith, ints, first, rest)

cause_read : (at latest : ℤ) (cause : Cause) → latest_with cause latest ≤ℤ at → ReadsBy at cause
cause_read at latest (Tick now) low = omega (arith, ints, clamps, low)
cause_read at latest Campaign low = tt
cause_read at latest (Hear number) low = tt
cause_read at latest Answer low = tt

turn_read : (at latest : ℤ) (turn : Turn) → latest_after turn latest ≤ℤ at → IsTurnBy at turn
turn_read at latest (Did who cause made) low = cause_read at latest cause low
turn_read at latest (Stopped who None kept) low = tt
turn_read at latest (Stopped who (Some cause) kept) low = cause_read at latest cause low
turn_read at latest (Restarted who) low = tt
turn_read at latest (Arrived number) low = tt

-- none is later than an instant that it is no later than
pub each_by : (at latest : ℤ) (rows : List Row) → latest_in latest rows ≤ℤ at → AreTurnsBy at rows
each_by at latest [] low = All-nil (λ (r : Row). IsTurnBy at r.turn)
each_by at latest (row ∷ rows) low =
    let rest = rises (latest_after row.turn latest) rows in
    All-cons (λ (r : Row). IsTurnBy at r.turn) row rows (turn_read at latest row.turn (omega (arith, ints, rest, low)))
    (each_by at (latest_after row.turn latest) rows low)

-- and so of turns in any situation
pub turns_latest : (members : ℕ) (situation : Situation) (rows : List Row) (at : ℤ) → ((after_turns members situation rows).latest ≤ℤ at) ↔ ((situation.latest ≤ℤ at) × AreTurnsBy at rows)
turns_latest members situation rows at = (
  (λ low.
      let all : latest_in situation.latest rows ≤ℤ at = subst (λ reading. reading ≤ℤ at) come.latest low in
      let first = rises situation.latest rows in (omega (arith, ints, first, all), each_by at situation.latest rows all)),
  (λ both. subst (λ reading. reading ≤ℤ at) (sym come.latest) (latest_by at situation.latest rows both.1 both.0)),
)
  where
    come : Comes members situation rows (after_turns members situation rows)
    come = turns_come members situation rows
