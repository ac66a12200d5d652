-- The minutes of a walk from the window's first on: their clocks read the minute, no replica stops, and each is drained.
use Rattle.std.proofs.Common.{◌≡◌, ℕ, zero, suc, ◌<◌, List, [], ◌∷◌, ◌++◌, ℤ, pos, ◌-ℤ◌, ◌≤ℤ◌, ◌<ℤ◌, refl, sym, ap, ◌∙◌, inl, inr, subst, arith, append_assoc, append-nil, if◌then◌else◌}
use Rattle.std.specs.List.{Contains, range_with_len}
use Rattle.std.specs.Int.{int_min}
use Rattle.std.proofs.lemmas.Bool.{cases_Bool}
use Rattle.std.proofs.lemmas.Int.{ints, clamps}
use Rattle.std.proofs.lemmas.List.Elements.{All-append, All-cons, All-nil}
use Rattle.std.proofs.lemmas.List.Sums.{fold-append}
use Rattle.zone_minutes.specs.Window.{IsInWindow}
use Rattle.zone_minutes.specs.declared.minute.Minute.{Minute}
use Rattle.zone_minutes.specs.declared.minute.Window.{Window}
use Rattle.due_set.specs.Table.{Table}
use Rattle.term_core.specs.declared.term.Term.{Term}
use Rattle.term_core.specs.declared.term.Term.TheVariants.{Follower, Candidate, Leader}
use Rattle.launch_machine.specs.Clerk.{first_rows}
use Rattle.step_spec.specs.State.{prefix_of}
use Rattle.step_spec.proofs.Lists.{flat_came, nothing_in}
use Rattle.cluster_sched.specs.declared.fate.Fate.{Fate}
use Rattle.history.specs.Book.{Row, Standing, after_row, first_standing, standing_after}
use Rattle.history.specs.declared.turn.Cause.{Cause}
use Rattle.history.specs.declared.turn.Cause.TheVariants.{Campaign, Tick, Hear, Answer}
use Rattle.history.specs.declared.turn.Turn.{Turn}
use Rattle.history.specs.declared.turn.Turn.TheVariants.{Did, Stopped, Restarted, Arrived}
use Rattle.history.proofs.Turns.{after_rows}
use Rattle.script_semantics.specs.Round.{clock_reading, round_tasks}
use Rattle.script_semantics.specs.Script.{Obeys}
use Rattle.script_semantics.specs.Settling.{AsksNothing, Drains, DrainsIn, IsQuiet, Settles, WalksIn, campaign_tasks, coordinator, restart_tasks}
use Rattle.script_semantics.specs.Situation.{AreTurnsFor, IsTurnFor, Performs, Situation, Task, Arrive, Do, Restart, Stop, after_turn, after_turns, first_situation}
use Rattle.script_semantics.proofs.RoundLemmas.{is_step, reading}
use Rattle.script_semantics.proofs.WalkLemmas.{settled, drained as drains_quiet}
use Rattle.launch_safety.specs.Readings.{AreTurnsBy, IsTurnBy, ReadsBy}
use Rattle.run_outcome.proofs.DrainLemmas.{AreRight}
use Rattle.run_outcome.proofs.PartLemmas.{Comes, drains_come, settles_come}
use Rattle.launch_safety.specs.Asked.{ReadsAt, TicksAt}
use Rattle.launch_safety.proofs.Rises.{AllGoOn, GoesOn}
use Rattle.due_set.proofs.Rising.{Contains-head as in_first, Contains-tail as in_rest, Contains-cases as cons_cases}

-- ---- the turns of a minute

-- a clock that ticks reads the minute
abbrev ReadsOnly : (minute : ℤ) → Cause → Type 0
ReadsOnly minute (Tick now) = now.0 ≡ minute
ReadsOnly minute cause = Unit {0}

-- no replica stops, and a clock that ticks reads the minute
abbrev IsTurnOf : (minute : ℤ) → Turn → Type 0
IsTurnOf minute (Did who cause made) = ReadsOnly minute cause
IsTurnOf minute (Stopped who cause kept) = ⊥
IsTurnOf minute (Restarted who) = Unit {0}
IsTurnOf minute (Arrived late) = Unit {0}

abbrev AreTurnsOf : (minute : ℤ) → List Row → Type 0
AreTurnsOf minute [] = Unit {0}
AreTurnsOf minute (row ∷ rows) = IsTurnOf minute row.turn × AreTurnsOf minute rows

turns_append : (minute : ℤ) (xs ys : List Row) → AreTurnsOf minute xs → AreTurnsOf minute ys → AreTurnsOf minute (xs ++ ys)
turns_append minute [] ys one two = two
turns_append minute (x ∷ xs) ys one two = (one.0, turns_append minute xs ys one.1 two)

-- the same of tasks
abbrev IsTaskOf : ℤ → Task → Type 0
IsTaskOf minute (Do who cause) = ReadsOnly minute cause
IsTaskOf minute (Stop who) = ⊥
IsTaskOf minute (Restart who) = Unit {0}
IsTaskOf minute (Arrive late) = Unit {0}

abbrev AreTasksOf : ℤ → List Task → Type 0
AreTasksOf minute tasks = (task : Task) → Contains tasks task → IsTaskOf minute task

turn_of_task : (minute : ℤ) (fates : ℕ → Fate) (task : Task) (turn : Turn) → IsTaskOf minute task → IsTurnFor fates task turn → IsTurnOf minute turn
turn_of_task minute fates (Do who cause) turn of is = subst (IsTurnOf minute) (sym is.is) of
turn_of_task minute fates (Stop who) turn of is = absurd of
turn_of_task minute fates (Restart who) turn of is = subst (IsTurnOf minute) (sym is) tt
turn_of_task minute fates (Arrive late) turn of is = subst (IsTurnOf minute) (sym is) tt

turns_of_tasks : (members : ℕ) (minute : ℤ) (situation : Situation) (tasks : List Task) (rows : List Row) → AreTasksOf minute tasks → AreTurnsFor members situation tasks rows → AreTurnsOf minute rows
turns_of_tasks members minute situation [] rows of turns = subst (AreTurnsOf minute) (sym turns) tt
turns_of_tasks members minute situation (task ∷ tasks) [] of turns = absurd cc
turns_of_tasks members minute situation (task ∷ tasks) (row ∷ rows) of (turn, turns) = (
  turn_of_task minute situation.fates task row.turn (of task (in_first task tasks)) turn,
  turns_of_tasks members minute (after_turn members situation row) tasks rows (λ other has. of other (in_rest task tasks other has)) turns,
)

-- the turns are those of the minute, and the clocks are right still
record KeepsTime (minute : ℤ) (rows : List Row) (after : Situation) : Type 0 where
  of : AreTurnsOf minute rows
  right : AreRight after

turns_keep : (members : ℕ) (situation : Situation) (rows : List Row) → (after_turns members situation rows).skews ≡ situation.skews
turns_keep members situation [] = refl
turns_keep members situation (row ∷ rows) = turns_keep members (after_turn members situation row) rows

played : (members : ℕ) (minute : ℤ) (tasks : List Task) (situation : Situation) (rows : List Row) (after : Situation) → AreTasksOf minute tasks → AreRight situation → Performs members tasks situation rows after → KeepsTime minute rows after
played members minute tasks situation rows after of right performs = record {
  of = turns_of_tasks members minute situation tasks rows of performs.turns;
  right = λ who. ap (λ (s : Situation). s.skews who) performs.is ∙ ap (λ skews. skews who) (turns_keep members situation rows) ∙ right who;
}

joined : (minute : ℤ) (front back rows : List Row) (after : Situation) → rows ≡ front ++ back → AreTurnsOf minute front → KeepsTime minute back after → KeepsTime minute rows after
joined minute front back rows after parts first later = record {
  of = subst (AreTurnsOf minute) (sym parts) (turns_append minute front back first later.of);
  right = later.right;
}

no_tasks : (minute : ℤ) → AreTasksOf minute []
no_tasks minute task has = nothing_in has

one_task : (minute : ℤ) (only : Task) → IsTaskOf minute only → AreTasksOf minute (only ∷ [])
one_task minute only of task has = elim (cons_cases only [] task has) [ inl same ↦ subst (IsTaskOf minute) same of | inr none ↦ nothing_in none ]

campaigns_of : (minute : ℤ) (who : ℕ) (term : Term) → AreTasksOf minute (campaign_tasks who term)
campaigns_of minute who (Follower ended) = one_task minute (Do who Campaign) tt
campaigns_of minute who (Candidate ballot first heard best) = no_tasks minute
campaigns_of minute who (Leader ballot best flight) = no_tasks minute

-- a right clock reads a minute of the window as it is
reads_right : (window : Window) (minute : ℤ) (skew : ℤ) → skew ≡ pos 0 → IsInWindow window minute → (clock_reading window minute skew).0 ≡ minute
reads_right window minute skew right inside =
    let since = inside.since in
    let before = inside.before in
    omega (arith, ints, clamps, right, since, before)

round_of_minute : (members : ℕ) (window : Window) (minute : ℤ) (situation : Situation) → AreRight situation → IsInWindow window minute → AreTasksOf minute (round_tasks members window minute situation)
round_of_minute members window minute situation right inside task has = of_step (is_step members window minute situation task has)
  where
    of_cause : (who : ℕ) (cause : Cause) → Contains (round_tasks members window minute situation) (Do who cause) → ReadsOnly minute cause
    of_cause who (Tick now) has =
        ap (λ (m : Minute). m.0) (reading members window minute situation who now has) ∙ reads_right window minute (situation.skews who) (right who) inside
    of_cause who Campaign has = tt
    of_cause who (Hear number) has = tt
    of_cause who Answer has = tt

    of_step : (who : ℕ) × (cause : Cause) × (task ≡ Do who cause) → IsTaskOf minute task
    of_step (who, cause, is) = subst (IsTaskOf minute) (sym is) (of_cause who cause (subst (λ t. Contains (round_tasks members window minute situation) t) is has))

drains_in : (rounds members : ℕ) (table : Table) (who : ℕ) (minute : ℤ) (situation : Situation) (rows : List Row) (after : Situation) → AreRight situation → IsInWindow table.window minute
    → DrainsIn rounds members table who minute situation rows after → KeepsTime minute rows after
drains_in zero members table who minute situation rows after right inside drains = record {
  of = subst (AreTurnsOf minute) (sym drains.stays.none) tt;
  right = λ other. ap (λ (s : Situation). s.skews other) drains.stays.is ∙ right other;
}
drains_in (suc more) members table who minute situation rows after right inside drains =
    let parts = drains.goes_on in
    let turns = parts.one in
    let term = (situation.standing.replicas who).term in
    let stood = played members minute (campaign_tasks who term) situation turns.front turns.middle (campaigns_of minute who term) right turns.one in
    let round =
    played members minute (round_tasks members table.window minute turns.middle) turns.middle turns.back parts.middle
    (round_of_minute members table.window minute turns.middle stood.right inside) stood.right turns.two in
    let rest = drains_in more members table who minute parts.middle parts.back after round.right inside parts.two in
    joined minute parts.front parts.back rows after parts.parts (joined minute turns.front turns.back parts.front parts.middle turns.parts stood.of round).of rest

drains_of : (members : ℕ) (table : Table) (who : ℕ) (minute : ℤ) (situation : Situation) (rows : List Row) (after : Situation) → AreRight situation → IsInWindow table.window minute
    → Drains members table who minute situation rows after → KeepsTime minute rows after
drains_of members table who minute situation rows after right inside (rounds, drains) = drains_in rounds members table who minute situation rows after right inside drains

restarts_of : (minute : ℤ) (members : ℕ) (situation : Situation) → AreTasksOf minute (restart_tasks members situation)
restarts_of minute members situation task has =
    let came = flat_came (λ who. if situation.standing.runs who then [] else Restart who ∷ []) (range_with_len 0 members) task has in
    elim (cases_Bool (situation.standing.runs came.of)) [
      | inl runs ↦ nothing_in (subst (λ b. Contains (if b then [] else Restart came.of ∷ []) task) runs came.inside)
      | inr stopped ↦ one_task minute (Restart came.of) tt task (subst (λ b. Contains (if b then [] else Restart came.of ∷ []) task) stopped came.inside)
    ]

settles_of : (members : ℕ) (table : Table) (minute : ℤ) (situation : Situation) (rows : List Row) (after : Situation) → IsInWindow table.window minute
    → Settles members table minute situation rows after → KeepsTime minute rows after
settles_of members table minute situation rows after inside settles =
    let start = settles.one in
    let leads = settles.two in
    let who = coordinator members settles.middle in
    let begun : AreTurnsOf minute settles.front =
    subst (AreTurnsOf minute) (sym start.parts)
    (turns_append minute start.front start.back
    (turns_of_tasks members minute situation (restart_tasks members situation) start.front (restarts_of minute members situation) start.one.turns)
    (subst (AreTurnsOf minute) (sym start.two.none) tt)) in
    let right : AreRight settles.middle = λ other. ap (λ (s : Situation). s.skews other) start.two.is in
    let stood = played members minute (Do who Campaign ∷ []) settles.middle leads.front leads.middle (one_task minute (Do who Campaign) tt) right leads.one in
    let rest = drains_of members table who minute leads.middle leads.back after stood.right inside leads.two in
    joined minute settles.front settles.back rows after settles.parts begun (joined minute leads.front leads.back settles.back after leads.parts stood.of rest)

-- ---- what the turns of a minute say

cause_by : (minute at : ℤ) (cause : Cause) → minute ≤ℤ at → ReadsOnly minute cause → ReadsBy at cause
cause_by minute at (Tick now) low reads = omega (arith, ints, low, reads)
cause_by minute at Campaign low reads = tt
cause_by minute at (Hear number) low reads = tt
cause_by minute at Answer low reads = tt

turn_by : (minute at : ℤ) (turn : Turn) → minute ≤ℤ at → IsTurnOf minute turn → IsTurnBy at turn
turn_by minute at (Did who cause made) low of = cause_by minute at cause low of
turn_by minute at (Stopped who cause kept) low of = absurd of
turn_by minute at (Restarted who) low of = tt
turn_by minute at (Arrived late) low of = tt

turns_by : (minute at : ℤ) (rows : List Row) → minute ≤ℤ at → AreTurnsOf minute rows → AreTurnsBy at rows
turns_by minute at [] low of = All-nil (λ (r : Row). IsTurnBy at r.turn)
turns_by minute at (row ∷ rows) low (one, of) = All-cons (λ (r : Row). IsTurnBy at r.turn) row rows (turn_by minute at row.turn low one) (turns_by minute at rows low of)

turn_goes : (minute : ℤ) (turn : Turn) → IsTurnOf minute turn → GoesOn turn
turn_goes minute (Did who cause made) of = tt
turn_goes minute (Stopped who cause kept) of = absurd of
turn_goes minute (Restarted who) of = tt
turn_goes minute (Arrived late) of = tt

turns_go : (minute : ℤ) (rows : List Row) → AreTurnsOf minute rows → AllGoOn rows
turns_go minute [] of = tt
turns_go minute (row ∷ rows) (one, of) = (turn_goes minute row.turn one, turns_go minute rows of)

pub go_append : (xs ys : List Row) → AllGoOn xs → AllGoOn ys → AllGoOn (xs ++ ys)
go_append [] ys one two = two
go_append (x ∷ xs) ys one two = (one.0, go_append xs ys one.1 two)

pub go_front : (xs ys : List Row) → AllGoOn (xs ++ ys) → AllGoOn xs
go_front [] ys all = tt
go_front (x ∷ xs) ys all = (all.0, go_front xs ys all.1)

pub go_back : (xs ys : List Row) → AllGoOn (xs ++ ys) → AllGoOn ys
go_back [] ys all = all
go_back (x ∷ xs) ys all = go_back xs ys all.1

cause_at : (minute now : ℤ) (cause : Cause) → ReadsOnly minute cause → TicksAt now cause → now ≡ minute
cause_at minute now (Tick m) reads ticks = sym ticks ∙ reads
cause_at minute now Campaign reads ticks = absurd ticks
cause_at minute now (Hear number) reads ticks = absurd ticks
cause_at minute now Answer reads ticks = absurd ticks

turn_at : (minute now : ℤ) (turn : Turn) → IsTurnOf minute turn → ReadsAt now turn → now ≡ minute
turn_at minute now (Did who cause made) of reads = cause_at minute now cause of reads
turn_at minute now (Stopped who cause kept) of reads = absurd of
turn_at minute now (Restarted who) of reads = absurd reads
turn_at minute now (Arrived late) of reads = absurd reads

turns_at : (minute now : ℤ) (front : List Row) (row : Row) (back : List Row) → AreTurnsOf minute (front ++ row ∷ back) → ReadsAt now row.turn → now ≡ minute
turns_at minute now [] row back of reads = turn_at minute now row.turn of.0 reads
turns_at minute now (first ∷ front) row back of reads = turns_at minute now front row back of.1 reads

-- ---- minutes that are drained

-- At a front of the book a replica asks for nothing at the minute, and all have learned as much as it; no clock of the front has
-- passed the minute.
pub record IsDrainedBy (n : ℕ) (table : Table) (front : List Row) (minute : ℤ) : Type 0 where
  pub by : AreTurnsBy minute front
  pub who : ℕ
  pub asks : AsksNothing table minute ((standing_after n (first_rows table) front).replicas who)
  pub caught_up : (other : ℕ) → other < n
      → prefix_of ((standing_after n (first_rows table) front).replicas other) ≡ prefix_of ((standing_after n (first_rows table) front).replicas who)

-- the turn stands in such a front
pub record IsDrained (n : ℕ) (table : Table) (front : List Row) (row : Row) (back : List Row) (now : ℤ) : Type 0 where
  pub mid : List Row
  pub rest : List Row
  pub parts : back ≡ mid ++ rest
  pub drained : IsDrainedBy n table (front ++ row ∷ mid) now

-- so does each turn of the book that reads an instant, and none stops
pub record AllDrained (n : ℕ) (table : Table) (book : List Row) : Type 0 where
  pub each : (front : List Row) (row : Row) (back : List Row) (now : ℤ) → book ≡ front ++ row ∷ back → ReadsAt now row.turn → IsDrained n table front row back now
  pub goes : AllGoOn book

-- a place in two lists is in the one or in the other
pub data Place (xs ys front : List Row) (row : Row) (back : List Row) : Type 0 where
  earlier : (more : List Row) → xs ≡ front ++ row ∷ more → back ≡ more ++ ys → Place xs ys front row back
  later : (less : List Row) → front ≡ xs ++ less → ys ≡ less ++ row ∷ back → Place xs ys front row back

pub place : (xs ys front : List Row) (row : Row) (back : List Row) → xs ++ ys ≡ front ++ row ∷ back → Place xs ys front row back
place [] ys front row back is = later front refl is
place (x ∷ xs) ys [] row back is =
    let same : x ≡ row = cc in
    let rest : xs ++ ys ≡ back = cc in
    earlier xs (ap (λ r. r ∷ xs) same) (sym rest)
place (x ∷ xs) ys (f ∷ front) row back is = go (place xs ys front row back (let rest : xs ++ ys ≡ front ++ row ∷ back = cc in rest))
  where
    same : x ≡ f
    same = cc

    go : Place xs ys front row back → Place (x ∷ xs) ys (f ∷ front) row back
    go (earlier more parts rest) = earlier more (ap (λ r. r ∷ xs) same ∙ ap (λ rest. f ∷ rest) parts) rest
    go (later less parts rest) = later less (ap (λ r. r ∷ front) (sym same) ∙ ap (λ rest. x ∷ rest) parts) rest

-- one more minute
drained_on : (n : ℕ) (table : Table) (book rows : List Row) (minute : ℤ) → AllDrained n table book → AreTurnsOf minute rows → IsDrainedBy n table (book ++ rows) minute → AllDrained n table (book ++ rows)
drained_on n table book rows minute known of quiet = record {
  each = λ front row back now is reads. go front row back now is reads (place book rows front row back is);
  goes = go_append book rows known.goes (turns_go minute rows of);
}
  where
    go : (front : List Row) (row : Row) (back : List Row) (now : ℤ) → book ++ rows ≡ front ++ row ∷ back → ReadsAt now row.turn → Place book rows front row back → IsDrained n table front row back now
    go front row back now is reads (earlier more parts rest) =
        let old = known.each front row more now parts reads in
        record {
          mid = old.mid;
          rest = old.rest ++ rows;
          parts = rest ∙ ap (λ some. some ++ rows) old.parts ∙ append_assoc old.mid old.rest rows;
          drained = old.drained;
        }
    go front row back now is reads (later less parts rest) =
        let same : now ≡ minute = turns_at minute now less row back (subst (AreTurnsOf minute) rest of) reads in
        record {
          mid = back;
          rest = [];
          parts = sym (append-nil back);
          drained = subst (λ some. IsDrainedBy n table some now) is (subst (IsDrainedBy n table (book ++ rows)) (sym same) quiet);
        }

none_drained : (n : ℕ) (table : Table) → AllDrained n table []
none_drained n table = record { each = λ front row back now is reads. absurd (nothing front row back is); goes = tt }
  where
    nothing : (front : List Row) (row : Row) (back : List Row) → [] ≡ front ++ row ∷ back → ⊥
    nothing [] row back is = cc
    nothing (f ∷ front) row back is = cc

-- ---- the walk

abbrev IsOf : (n : ℕ) (table : Table) (book : List Row) → Situation → Type 0
IsOf n table book situation = situation.standing ≡ standing_after n (first_rows table) book

goes_on : (n : ℕ) (table : Table) (book rows : List Row) (situation after : Situation) → IsOf n table book situation → Comes n situation rows after → IsOf n table (book ++ rows) after
goes_on n table book rows situation after is comes =
    comes.standing ∙ ap (λ st. after_rows n st rows) is
    ∙ sym (fold-append (λ (st : Standing) (row : Row). after_row n st row.turn row.event row.letters) (first_standing n (first_rows table)) book rows)

quiet_drains : (n : ℕ) (table : Table) (book : List Row) (minute : ℤ) (situation : Situation) (who : ℕ) → IsOf n table book situation → AreTurnsBy minute book → IsQuiet n table who minute situation
    → IsDrainedBy n table book minute
quiet_drains n table book minute situation who is by quiet = record {
  by = by;
  who = who;
  asks = subst (λ (st : Standing). AsksNothing table minute (st.replicas who)) is quiet.rests;
  caught_up = λ other lt. subst (λ (st : Standing). prefix_of (st.replicas other) ≡ prefix_of (st.replicas who)) is (quiet.caught_up other lt);
}

longer : (at : ℤ) (book rows : List Row) → AreTurnsBy at book → AreTurnsBy at rows → AreTurnsBy at (book ++ rows)
longer at book rows one two = All-append (λ (r : Row). IsTurnBy at r.turn) book rows one two

walks_drain : (minutes n : ℕ) (table : Table) (who : ℕ) (above to : ℤ) (book rows : List Row) (situation after : Situation) → table.window.from.0 ≤ℤ above → to <ℤ table.window.until.0
    → IsOf n table book situation → ((at : ℤ) → above ≤ℤ at → AreTurnsBy at book) → AreRight situation → AllDrained n table book
    → WalksIn minutes n table who above to situation rows after → AllDrained n table (book ++ rows)
walks_drain zero n table who above to book rows situation after from high is by right known walks =
    subst (AllDrained n table) (ap (λ some. book ++ some) (sym walks.stays.none)) (subst (AllDrained n table) (sym (append-nil book)) known)
walks_drain (suc more) n table who above to book rows situation after from high is by right known (minute, next, walks) =
    let after_it = next.later in
    let within = next.within in
    let inside : IsInWindow table.window minute = record { since = omega (arith, ints, from, after_it); before = omega (arith, ints, high, within) } in
    let timely = drains_of n table who minute situation walks.front walks.middle right inside walks.one in
    let quiet = drains_quiet n table who minute situation walks.front walks.middle walks.one in
    let there = goes_on n table book walks.front situation walks.middle is (drains_come n table who minute situation walks.front walks.middle walks.one) in
    let by_then : (at : ℤ) → minute ≤ℤ at → AreTurnsBy at (book ++ walks.front) =
    λ at low. longer at book walks.front (by at (omega (arith, ints, after_it, low))) (turns_by minute at walks.front low timely.of) in
    let drained = drained_on n table book walks.front minute known timely.of (quiet_drains n table (book ++ walks.front) minute walks.middle who there (by_then minute (omega (arith, ints))) quiet) in
    subst (AllDrained n table) (append_assoc book walks.front walks.back ∙ ap (λ some. book ++ some) (sym walks.parts))
    (walks_drain more n table who minute to (book ++ walks.front) walks.back walks.middle after (omega (arith, ints, from, after_it)) high there by_then timely.right drained walks.two)

-- Each turn of a book that obeys a script without commands stands in a front that is drained at the minute that its clock read.
pub all_drained : (n : ℕ) (table : Table) (rows : List Row) → table.window.from.0 <ℤ table.window.until.0 → Obeys n table [] rows → AllDrained n table rows
all_drained n table rows some obeyed =
    let begun = first_situation n table in
    let stays = obeyed.obeys.one in
    let walk = obeyed.obeys.two in
    let last = table.window.until.0 -ℤ pos 1 in
    let minute = int_min obeyed.obeys.middle.latest last in
    let latest : obeyed.obeys.middle.latest ≡ table.window.from.0 = ap (λ (s : Situation). s.latest) stays.is in
    let from : table.window.from.0 ≤ℤ minute = omega (arith, ints, clamps, latest, some) in
    let inside : IsInWindow table.window minute = record { since = from; before = omega (arith, ints, clamps, latest, some) } in
    let is : IsOf n table [] obeyed.obeys.middle = ap (λ (s : Situation). s.standing) stays.is in
    let timely = settles_of n table minute obeyed.obeys.middle walk.front walk.middle inside walk.one in
    let quiet = settled n table minute obeyed.obeys.middle walk.middle walk.front walk.one in
    let there = goes_on n table [] walk.front obeyed.obeys.middle walk.middle is (settles_come n table minute obeyed.obeys.middle walk.front walk.middle walk.one) in
    let by : (at : ℤ) → minute ≤ℤ at → AreTurnsBy at walk.front = λ at low. turns_by minute at walk.front low timely.of in
    let first = drained_on n table [] walk.front minute (none_drained n table) timely.of (quiet_drains n table walk.front minute walk.middle quiet.0 there (by minute (omega (arith, ints))) quiet.1) in
    let all = walks_drain walk.two.0 n table (coordinator n obeyed.obeys.middle) minute last walk.front walk.back walk.middle obeyed.after from (omega (arith, ints)) there by timely.right first walk.two.1 in
    subst (AllDrained n table) (sym (obeyed.obeys.parts ∙ ap (λ front. front ++ obeyed.obeys.back) stays.none ∙ walk.parts)) all
