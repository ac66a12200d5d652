-- A walk past an instant stops there, and behind it each clock reads a later one.
use Rattle.std.proofs.Common.{◌≡◌, inl, inr, ℕ, zero, suc, ◌+◌, ◌≤◌, List, [], ◌∷◌, ◌++◌, append_assoc, ℤ, pos, ◌≤ℤ◌, ◌<ℤ◌, refl, sym, ap, ◌∙◌, subst, arith}
use Rattle.std.specs.Int.{int_min}
use Rattle.std.specs.List.{All, Contains}
use Rattle.std.proofs.lemmas.Int.{ints, clamps, by_lt_z}
use Rattle.std.proofs.lemmas.List.Elements.{All-append, All-cons, All-nil}
use Rattle.zone_minutes.specs.declared.minute.Minute.{Minute}
use Rattle.zone_minutes.specs.declared.minute.Window.{Window}
use Rattle.due_set.specs.Table.{Table}
use Rattle.due_set.proofs.Rising.{Contains-cases, Contains-head, Contains-tail}
use Rattle.term_core.specs.declared.term.Term.{Term}
use Rattle.term_core.specs.declared.term.Term.TheVariants.{Follower, Candidate, Leader}
use Rattle.cluster_sched.specs.declared.fate.Fate.{Fate}
use Rattle.step_spec.proofs.Lists.{nothing_in}
use Rattle.history.specs.Book.{Row}
use Rattle.history.specs.declared.turn.Cause.{Cause}
use Rattle.history.specs.declared.turn.Cause.TheVariants.{Answer, Campaign, Hear, Tick}
use Rattle.history.specs.declared.turn.Turn.{Turn}
use Rattle.launch_safety.specs.Asked.{ReadsAt, TicksAt}
use Rattle.launch_safety.specs.Readings.{AreTurnsBy, IsTurnBy}
use Rattle.script_semantics.specs.Round.{clock_reading, round_tasks}
use Rattle.script_semantics.specs.Settling.{Drains, DrainsIn, IsNextMinute, Settles, Walks, WalksIn, WalksOn, campaign_tasks, coordinator}
use Rattle.script_semantics.specs.Parts.{Then}
use Rattle.script_semantics.specs.Situation.{AreTurnsFor, IsTurnFor, Performs, Situation, Task, Arrive, Do, Restart, Stop, after_turn, after_turns}
use Rattle.script_semantics.proofs.RoundLemmas.{is_step, reading}
use Rattle.run_outcome.proofs.DrainLemmas.{AreRight, drains_by, settles_by}
use Rattle.run_outcome.proofs.Minutes.{later}

-- ---- readings behind an instant

-- what the clock of the turn reads, where it ticks, is later than the instant
abbrev pub IsTurnAfter : (at : ℤ) → Turn → Type 0
IsTurnAfter at turn = (now : ℤ) → ReadsAt now turn → at <ℤ now

-- the same of turns
abbrev pub AreTurnsAfter : (at : ℤ) → List Row → Type 0
AreTurnsAfter at rows = All (λ row. IsTurnAfter at row.turn) rows

-- the same of a task
abbrev IsTaskAfter : (at : ℤ) → Task → Type 0
IsTaskAfter at (Do who cause) = (now : ℤ) → TicksAt now cause → at <ℤ now
IsTaskAfter at task = Unit {0}

-- and of tasks
abbrev AreTasksAfter : (at : ℤ) → List Task → Type 0
AreTasksAfter at tasks = (task : Task) → Contains tasks task → IsTaskAfter at task

-- a task's turn reads what the task does
turn_after : (at : ℤ) (fates : ℕ → Fate) (task : Task) (turn : Turn) → IsTaskAfter at task → IsTurnFor fates task turn → IsTurnAfter at turn
turn_after at fates (Do who cause) turn after is = λ now reads. after now (subst (ReadsAt now) is.is reads)
turn_after at fates (Stop who) turn after is = λ now reads. absurd (subst (ReadsAt now) is reads)
turn_after at fates (Restart who) turn after is = λ now reads. absurd (subst (ReadsAt now) is reads)
turn_after at fates (Arrive late) turn after is = λ now reads. absurd (subst (ReadsAt now) is reads)

-- no turns read none
none_after : (at : ℤ) (rows : List Row) → rows ≡ [] → AreTurnsAfter at rows
none_after at rows none = subst (AreTurnsAfter at) (sym none) (All-nil (λ (r : Row). IsTurnAfter at r.turn))

-- two parts do as each of them does
both_after : (at : ℤ) (front back rows : List Row) → rows ≡ front ++ back → AreTurnsAfter at front → AreTurnsAfter at back → AreTurnsAfter at rows
both_after at front back rows parts one two = subst (AreTurnsAfter at) (sym parts) (All-append (λ (r : Row). IsTurnAfter at r.turn) front back one two)

-- turns read what their tasks do
turns_after : (members : ℕ) (at : ℤ) (situation : Situation) (tasks : List Task) (rows : List Row) → AreTasksAfter at tasks
    → AreTurnsFor members situation tasks rows → AreTurnsAfter at rows
turns_after members at situation [] rows after turns = none_after at rows turns
turns_after members at situation (task ∷ tasks) [] after turns = absurd cc
turns_after members at situation (task ∷ tasks) (row ∷ rows) after (turn, turns) =
    All-cons (λ (r : Row). IsTurnAfter at r.turn) row rows (turn_after at situation.fates task row.turn (after task (Contains-head task tasks)) turn)
    (turns_after members at (after_turn members situation row) tasks rows (λ other has. after other (Contains-tail task tasks other has)) turns)

-- readings are later, and the clocks are right still
record StaysLater (at : ℤ) (rows : List Row) (after : Situation) : Type 0 where
  behind : AreTurnsAfter at rows
  right : AreRight after

-- turns leave how far each clock is ahead
turns_keep : (members : ℕ) (situation : Situation) (rows : List Row) → (after_turns members situation rows).skews ≡ situation.skews
turns_keep members situation [] = refl
turns_keep members situation (row ∷ rows) = turns_keep members (after_turn members situation row) rows

-- the turns of tasks leave them so
played : (members : ℕ) (at : ℤ) (tasks : List Task) (situation : Situation) (rows : List Row) (after : Situation) → AreTasksAfter at tasks
    → AreRight situation → Performs members tasks situation rows after → StaysLater at rows after
played members at tasks situation rows after given right performs = record {
  behind = turns_after members at situation tasks rows given performs.turns;
  right = λ who. ap (λ (s : Situation). s.skews who) performs.is ∙ ap (λ skews. skews who) (turns_keep members situation rows) ∙ right who;
}

-- a replica that stands for leader looks at no clock
campaigns_after : (at : ℤ) (who : ℕ) (term : Term) → AreTasksAfter at (campaign_tasks who term)
campaigns_after at who (Follower ended) task has = elim (Contains-cases (Do who Campaign) [] task has) [
  | inl same ↦ subst (IsTaskAfter at) same (λ now ticks. absurd ticks)
  | inr none ↦ nothing_in none
]
campaigns_after at who (Candidate ballot first heard best) task has = nothing_in has
campaigns_after at who (Leader ballot best flight) task has = nothing_in has

-- a right clock reads no sooner than a minute of the window
reads_after : (window : Window) (at minute : ℤ) (skew : ℤ) → skew ≡ pos 0 → at <ℤ minute → minute <ℤ window.until.0
    → at <ℤ (clock_reading window minute skew).0
reads_after window at minute skew right low high = omega (arith, ints, clamps, right, low, high)

-- so the clocks of a round at a later minute read a later instant
round_after : (members : ℕ) (window : Window) (at minute : ℤ) (situation : Situation) → AreRight situation → at <ℤ minute → minute <ℤ window.until.0
    → AreTasksAfter at (round_tasks members window minute situation)
round_after members window at minute situation right low high task has = by_step (is_step members window minute situation task has)
  where
    by_cause : (who : ℕ) (cause : Cause) → Contains (round_tasks members window minute situation) (Do who cause) → IsTaskAfter at (Do who cause)
    by_cause who (Tick reads) has now ticks =
        subst (λ instant. at <ℤ instant) ticks
        (subst (λ (m : Minute). at <ℤ m.0) (sym (reading members window minute situation who reads has))
        (reads_after window at minute (situation.skews who) (right who) low high))
    by_cause who Campaign has now ticks = absurd ticks
    by_cause who (Hear number) has now ticks = absurd ticks
    by_cause who Answer has now ticks = absurd ticks

    by_step : (who : ℕ) × (cause : Cause) × (task ≡ Do who cause) → IsTaskAfter at task
    by_step (who, cause, is) =
        subst (IsTaskAfter at) (sym is) (by_cause who cause (subst (λ t. Contains (round_tasks members window minute situation) t) is has))

-- and those of a later minute that is drained
drains_after : (rounds members : ℕ) (table : Table) (who : ℕ) (at minute : ℤ) (situation : Situation) (rows : List Row) (after : Situation)
    → AreRight situation → at <ℤ minute → minute <ℤ table.window.until.0 → DrainsIn rounds members table who minute situation rows after
    → StaysLater at rows after
drains_after zero members table who at minute situation rows after right low high drains = record {
  behind = none_after at rows drains.stays.none;
  right = λ other. ap (λ (s : Situation). s.skews other) drains.stays.is ∙ right other;
}
drains_after (suc more) members table who at minute situation rows after right low high drains =
    let parts = drains.goes_on in
    let turns = parts.one in
    let term = (situation.standing.replicas who).term in
    let stood = played members at (campaign_tasks who term) situation turns.front turns.middle (campaigns_after at who term) right turns.one in
    let round =
    played members at (round_tasks members table.window minute turns.middle) turns.middle turns.back parts.middle
    (round_after members table.window at minute turns.middle stood.right low high) stood.right turns.two in
    let rest = drains_after more members table who at minute parts.middle parts.back after round.right low high parts.two in
    record {
      behind = both_after at parts.front parts.back rows parts.parts
          (both_after at turns.front turns.back parts.front turns.parts stood.behind round.behind) rest.behind;
      right = rest.right;
    }

-- and those of a walk from the instant on, or from a later one
walks_after : (minutes n : ℕ) (table : Table) (who : ℕ) (above to at : ℤ) (situation : Situation) (rows : List Row) (after : Situation)
    → at ≤ℤ above → to <ℤ table.window.until.0 → AreRight situation → WalksIn minutes n table who above to situation rows after → AreTurnsAfter at rows
walks_after zero n table who above to at situation rows after low high right walks = none_after at rows walks.stays.none
walks_after (suc more) n table who above to at situation rows after low high right (minute, next, walks) =
    let sooner = next.later in
    let within = next.within in
    let drains = walks.one in
    let drained = drains_after drains.0 n table who at minute situation walks.front walks.middle right (omega (arith, ints, low, sooner))
    (omega (arith, ints, high, within)) drains.1 in
    both_after at walks.front walks.back rows walks.parts drained.behind
    (walks_after more n table who minute to at walks.middle walks.back after (omega (arith, ints, low, sooner)) high drained.right walks.two)

-- ---- a walk past an instant

-- a walk to the instant, of which one past it goes on: no clock has passed the instant by then, and each reads a later one behind it
pub record Stops (walk : List Row → Situation → Type 0) (at : ℤ) (rows : List Row) : Type 0 where
  pub front : List Row
  pub middle : Situation
  pub back : List Row
  pub parts : rows ≡ front ++ back
  pub goes : walk front middle
  pub by : AreTurnsBy at front
  pub behind : AreTurnsAfter at back

-- it is one where nothing is asked for up to the instant
stops_here : (n : ℕ) (table : Table) (who : ℕ) (above at : ℤ) (situation : Situation) (rows : List Row) → WalksIn 0 n table who above at situation [] situation
    → AreTurnsAfter at rows → Stops (WalksOn n table who above at situation) at rows
stops_here n table who above at situation rows walks behind = record {
  front = [];
  middle = situation;
  back = rows;
  parts = refl;
  goes = (0, walks);
  by = All-nil (λ (r : Row). IsTurnBy at r.turn);
  behind = behind;
}

-- it is one with a minute more before it
stops_later : (n : ℕ) (table : Table) (who : ℕ) (above at minute : ℤ) (situation middle : Situation) (front back rows : List Row) → rows ≡ front ++ back
    → IsNextMinute table (situation.standing.replicas who) above at minute → Drains n table who minute situation front middle → AreTurnsBy at front
    → Stops (WalksOn n table who minute at middle) at back → Stops (WalksOn n table who above at situation) at rows
stops_later n table who above at minute situation middle front back rows parts next drains by stops =
    let goes : Then (Drains n table who minute) (WalksIn stops.goes.0 n table who minute at) situation (front ++ stops.front) stops.middle =
    record { front = front; middle = middle; back = stops.front; parts = refl; one = drains; two = stops.goes.1 } in
    record {
      front = front ++ stops.front;
      middle = stops.middle;
      back = stops.back;
      parts = parts ∙ ap (λ rest. front ++ rest) stops.parts ∙ sym (append_assoc front stops.front stops.back);
      goes = (suc stops.goes.0, (minute, next, goes));
      by = All-append (λ (r : Row). IsTurnBy at r.turn) front stops.front by stops.by;
      behind = stops.behind;
    }

-- a walk past the instant is one to the first minute that is later
walks_stop : (minutes n : ℕ) (table : Table) (who : ℕ) (above to at : ℤ) (situation : Situation) (rows : List Row) (after : Situation)
    → table.window.from.0 ≤ℤ at → above ≤ℤ at → at ≤ℤ to → to <ℤ table.window.until.0 → AreRight situation
    → WalksIn minutes n table who above to situation rows after → Stops (WalksOn n table who above at situation) at rows
walks_stop zero n table who above to at situation rows after from low high inside right walks =
    stops_here n table who above at situation rows
    (record { is_quiet = λ minute after_it within. walks.is_quiet minute after_it (omega (arith, ints, high, within)); stays = record { none = refl; is = refl } })
    (none_after at rows walks.stays.none)
walks_stop (suc more) n table who above to at situation rows after from low high inside right (minute, next, walks) =
    by_lt_z at minute
    (λ passed.
    let narrowed : IsNextMinute table (situation.standing.replicas who) at to minute = record {
      later = passed;
      within = next.within;
      asks = next.asks;
      least = λ other above_at sooner. next.least other (omega (arith, ints, low, above_at)) sooner;
    } in
    stops_here n table who above at situation rows
    (record { is_quiet = λ other after_it within. next.least other after_it (omega (arith, ints, passed, within)); stays = record { none = refl; is = refl } })
    (walks_after (suc more) n table who at to at situation rows after (omega (arith, ints)) inside right (minute, narrowed, walks)))
    (λ reached.
    let drained = drains_by n table who at minute situation walks.front walks.middle right from reached walks.one in
    let sooner : IsNextMinute table (situation.standing.replicas who) above at minute = record {
      later = next.later;
      within = reached;
      asks = next.asks;
      least = next.least;
    } in
    stops_later n table who above at minute situation walks.middle walks.front walks.back rows walks.parts sooner walks.one drained.by
    (walks_stop more n table who minute to at walks.middle walks.back after from reached high inside drained.right walks.two))

-- a walk that settles at this instant
abbrev WalksFrom : ℕ → Table → (settling to : ℤ) → Situation → List Row → Situation → Type 0
WalksFrom n table settling to situation = Then (Settles n table settling) (WalksOn n table (coordinator n situation) settling to) situation

-- also with what it settles before
settled_stops : (n : ℕ) (table : Table) (settling to at : ℤ) (situation : Situation) (rows : List Row) (after : Situation)
    → table.window.from.0 ≤ℤ at → settling ≤ℤ at → at ≤ℤ to → to <ℤ table.window.until.0 → WalksFrom n table settling to situation rows after
    → Stops (WalksFrom n table settling at situation) at rows
settled_stops n table settling to at situation rows after from low high inside walk =
    let timely = settles_by n table at settling situation walk.front walk.middle from low walk.one in
    let stops = walks_stop walk.two.0 n table (coordinator n situation) settling to at walk.middle walk.back after from low high inside timely.right walk.two.1 in
    record {
      front = walk.front ++ stops.front;
      middle = stops.middle;
      back = stops.back;
      parts = walk.parts ∙ ap (λ rest. walk.front ++ rest) stops.parts ∙ sym (append_assoc walk.front stops.front stops.back);
      goes = record { front = walk.front; middle = walk.middle; back = stops.front; parts = refl; one = walk.one; two = stops.goes };
      by = All-append (λ (r : Row). IsTurnBy at r.turn) walk.front stops.front timely.by stops.by;
      behind = stops.behind;
    }

-- A walk past an instant of the window is one to it, and goes on.
pub walk_stops : (n : ℕ) (table : Table) (to at : ℤ) (situation : Situation) (rows : List Row) (after : Situation) → table.window.from.0 ≤ℤ at
    → situation.latest ≤ℤ at → at ≤ℤ to → to <ℤ table.window.until.0 → Walks n table to situation rows after → Stops (Walks n table at situation) at rows
walk_stops n table to at situation rows after from low high inside walk =
    let same : int_min situation.latest to ≡ int_min situation.latest at = omega (arith, ints, clamps, low, high) in
    settled_stops n table (int_min situation.latest at) to at situation rows after from (omega (arith, ints, clamps, low)) high inside
    (subst (λ settling. WalksFrom n table settling to situation rows after) same walk)
